use Rattle.std.proofs.Common.{◌++◌, codes, refl}
use Rattle.std.proofs.lemmas.Result.{MatchResult-from_err}
use Rattle.em_text.proofs.WritingLemmas.{Writes-more, WroteFront-more, WroteFront-none, WroteFront-part}
use Rattle.em_inspect.specs.AddressText.{address_text}
use Rattle.em_debugger.specs.Nowhere.{meant_text, nowhere_text}
use Rattle.em_debugger.proofs.nowhere.write_nowhere.Goals as goal

pub returns-in_err-write_whole : goal.returns-in_err-write_whole
returns-in_err-write_whole g c =
    let wrote-0 = WroteFront-none (g.W.Write.contents c.args.writer.now) (nowhere_text c.args.offset c.args.meant) in
    record {
      writes = MatchResult-from_err _ _ _ c.from_residual.ensures.0 (λ _.
          WroteFront-part (address_text c.args.offset ++ (meant_text c.args.meant ++ (codes "\n"))) wrote-0 refl c.in_err-write_whole.ensures.writes);
    }

pub returns-in_err-write_address : goal.returns-in_err-write_address
returns-in_err-write_address g c =
    let wrote-0 = WroteFront-none (g.W.Write.contents c.args.writer.now) (nowhere_text c.args.offset c.args.meant) in
    let wrote-1 = WroteFront-more (codes "no register lies at ") wrote-0 refl c.in_ok-write_whole.ensures.writes in
    record {
      writes = MatchResult-from_err _ _ _ c.from_residual-in_err-write_address.ensures.0 (λ _.
          WroteFront-part (meant_text c.args.meant ++ (codes "\n")) wrote-1 refl (rw c.from.ensures at c.in_err-write_address.ensures.writes));
    }

pub returns-in_err-write_meant : goal.returns-in_err-write_meant
returns-in_err-write_meant g c =
    let wrote-0 = WroteFront-none (g.W.Write.contents c.args.writer.now) (nowhere_text c.args.offset c.args.meant) in
    let wrote-1 = WroteFront-more (codes "no register lies at ") wrote-0 refl c.in_ok-write_whole.ensures.writes in
    let wrote-2 = WroteFront-more (address_text c.args.offset) wrote-1 refl (rw c.from.ensures at c.in_ok-write_address.ensures.writes) in
    record {
      writes = MatchResult-from_err _ _ _ c.from_residual-in_err-write_meant.ensures.0 (λ _.
          WroteFront-part (codes "\n") wrote-2 refl c.in_err-write_meant.ensures.writes);
    }

pub returns : goal.returns
returns g c =
    let wrote-0 = WroteFront-none (g.W.Write.contents c.args.writer.now) (nowhere_text c.args.offset c.args.meant) in
    let wrote-1 = WroteFront-more (codes "no register lies at ") wrote-0 refl c.in_ok-write_whole.ensures.writes in
    let wrote-2 = WroteFront-more (address_text c.args.offset) wrote-1 refl (rw c.from.ensures at c.in_ok-write_address.ensures.writes) in
    let wrote-3 = WroteFront-more (meant_text c.args.meant) wrote-2 refl c.in_ok-write_meant.ensures.writes in
    record {
      writes = Writes-more _ _ _ _ wrote-3.front (codes "\n") _ wrote-3.written c.write_whole-2.ensures.writes wrote-3.whole;
    }
