use Rattle.std.proofs.Common.{◌≤◌, vec_len, take}
use Rattle.std.specs.Io.KnownBytes.{Consumes}
use Rattle.em_text.specs.Reader.{most_script}
use Rattle.em_text.proofs.reader.read_script.Given as goal

-- each read so far gave an octet or more
abbrev pub invariant-loop-reads : goal.invariant-loop-reads
invariant-loop-reads g l =
    let remaining = g.R.Read.remaining in
    record {
      each : l.reads ≤ l.filled;
      short : l.filled ≤ most_script;
      within : l.filled ≤ vec_len l.script;
      read : Consumes (remaining l.fn.reader) (remaining l.reader) (take l.filled l.script.items);
    }
