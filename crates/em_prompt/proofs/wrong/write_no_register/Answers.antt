use Rattle.std.proofs.Common.{◌≡◌, ℕ, List, [], ◌++◌, Option, codes, sym, ap, append-nil}
use Rattle.std.proofs.lemmas.Result.{MatchResult-from_err}
use Rattle.em_text.proofs.WritingLemmas.{Writes-more, WritesPart-front}
use Rattle.em_regs.specs.declared.reg.Reg.{Reg}
use Rattle.em_prompt.specs.WrongText.{near_text, no_register_text}
use Rattle.em_prompt.proofs.wrong.write_no_register.Goals as goal

-- the pieces of a text end with nothing
in_pieces : (near : Option (List Reg)) (word : List ℕ)
    → no_register_text near word ≡ (codes "no register " ++ (word ++ [])) ++ near_text near
in_pieces near word = ap (λ w. (codes "no register " ++ w) ++ near_text near) (sym (append-nil word))

pub returns-in_err-write_pieces : goal.returns-in_err-write_pieces
returns-in_err-write_pieces g c = record {
  writes = MatchResult-from_err _ _ _ c.from_residual.ensures.0 (λ _.
      WritesPart-front (near_text c.args.near) c.in_err-write_pieces.ensures.writes
      (in_pieces c.args.near c.args.word.now));
}

pub returns : goal.returns
returns g c = record {
  writes = Writes-more _ _ _ _ (codes "no register " ++ (c.args.word.now ++ [])) (near_text c.args.near) _
      c.in_ok-write_pieces.ensures.writes c.write_near.ensures.writes (in_pieces c.args.near c.args.word.now);
}
