use Rattle.std.proofs.Common.{◌≤◌, vec_len, take}
use Rattle.std.specs.Io.KnownBytes.{Consumes}
use Rattle.em_input.specs.Script.{most_input}
use Rattle.em_input.proofs.script.read_input.Given as goal

-- each read so far gave an octet or more
abbrev pub invariant-loop-reads : goal.invariant-loop-reads
invariant-loop-reads g l =
    let remaining = g.R.Read.remaining in
    record {
      each : l.reads ≤ l.filled;
      short : l.filled ≤ most_input;
      within : l.filled ≤ vec_len l.script;
      read : Consumes (remaining l.fn.reader) (remaining l.reader) (take l.filled l.script.items);
    }
