use Rattle.std.proofs.Common.{ℕ, List, ap, ◌∙◌, get_or, set}
use Rattle.em_phy.specs.Phy.{State, stored}
use Rattle.em_phy.proofs.PhyLaws.{word_back}
use Rattle.em_phy.proofs.phy.Phy.write.Goals as goal

pub returns-clause-undo : goal.returns-clause-undo
returns-clause-undo c =
    let m = c.self.inside.mdic in
    let ws = c.self.inside.words in
    let v = c.args.value in
    let reg = c.register_address-reg.result in
    let state = λ (w : List ℕ). let s : State = record { mdic = m; words = w } in s in
    ap (λ (s : State). state (set s.words reg (get_or ws c.from.result 0))) c.store.ensures
    ∙ ap (λ i. state (set (stored ws v) reg (get_or ws i 0))) c.from.ensures
    ∙ ap state (word_back ws v reg c.register_address-reg.ensures.value)
    ∙ c.self.view_is
