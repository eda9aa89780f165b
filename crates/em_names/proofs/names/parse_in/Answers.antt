use Rattle.std.proofs.Common.{◌≡◌, ◌∙◌, ◌*◌, true, false, Some, None, ap, sym, subst, arith}
use Rattle.em_regs.specs.declared.reg.Reg.{Reg}
use Rattle.em_regs.specs.Table.{reg_of}
use Rattle.em_names.specs.Names.{IsNamed}
use Rattle.em_names.proofs.NameLaws.{names_apart, no_digit_first, none_named_next}
use Rattle.em_names.proofs.names.parse_in.Goals as goal
use Rattle.em_names.proofs.names.parse_in.Goals.{in-Some+else-is_named, in_default}

pub returns-then-begins_with_digit-clause-every : goal.returns-then-begins_with_digit-clause-every
returns-then-begins_with_digit-clause-every c = λ reg h n.
    absurd (no_digit_first reg c.args.word.now (sym c.begins_with_digit.ensures ∙ c.if-begins_with_digit.true) n)

pub returns-then-is_named-clause-every : goal.returns-then-is_named-clause-every
returns-then-is_named-clause-every c = λ reg h n.
    ap Some (names_apart c.in-Some.reg reg c.args.word.now c.in-Some.ensures.some.0.0 h.0
    (c.is_named.ensures.0 c.if-is_named.true) n)

-- the register that lies at the offset is not the one that is named
here : (c : goal.Joined-of_offset_in) (reg : Reg) → reg_of c.args.profile (4 * c.loop-index.index) ≡ Some reg
    → IsNamed c.args.word.now reg → ⊥
here c reg is n = elim c.match-of_offset_in.branch [
  | in-Some+else-is_named w ↦
      let found : Some w.in-Some.reg ≡ Some reg = sym w.in-Some.is ∙ c.of_offset_in.ensures.table ∙ is in
      let same : w.in-Some.reg ≡ reg = cc in
      let yes : w.is_named.result ≡ true = w.is_named.ensures.1 (subst (IsNamed c.args.word.now) (sym same) n) in
      let no : true ≡ false = sym yes ∙ w.if-is_named.false in
      cc
  | in_default w ↦
      let found : c.of_offset_in.result ≡ Some reg = c.of_offset_in.ensures.table ∙ is in
      let none : c.of_offset_in.result ≡ None = w.in_default.is in
      cc
]

pub loop-index-preserved : goal.loop-index-preserved
loop-index-preserved c = λ reg h below n.
    none_named_next c.args.profile c.args.word.now (4 * c.loop-index.index) c.loop-index.invariant (here c) (omega arith) reg h
    (omega (arith, below)) n
