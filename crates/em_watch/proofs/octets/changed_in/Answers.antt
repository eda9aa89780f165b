use Rattle.std.proofs.Common.{◌≡◌, ◌+◌, ◌-◌, ℕ, arith, subst, sym}
use Rattle.em_watch.specs.MemoryChange.{ChangesOctet, LeavesOctets}
use Rattle.em_watch.proofs.DifferenceLaws.{none_is}
use Rattle.em_watch.proofs.OctetLaws.{back_left, changed_there, front_left, is_change}
use Rattle.em_watch.proofs.octets.changed_in.Goals as goal

pub returns-in_err-first-clause-none : goal.returns-in_err-first-clause-none
returns-in_err-first-clause-none c =
    let window = c.args.window in
    let around = c.octets_around in
    none_is c.from_residual.result
    (LeavesOctets c.args.machine.now c.args.back window.addr (window.addr + window.len))
    (front_left c.args.machine.now c.args.back window around.result.0 around.result.1 around.ensures.before
    around.ensures.after window.len (omega arith)
    (λ j l. c.in_err-first.ensures.none j (omega (arith, c.len.ensures.len, l))))

pub octets_around-requires-2-clause-held : goal.octets_around-requires-2-clause-held
octets_around-requires-2-clause-held c = λ k s at.
    omega (
      arith,
      c.requires.held k s at,
      c.between-range.ensures.addr,
      c.between-range.ensures.len,
      c.last_other-last.ensures.from,
      c.last_other-last.ensures.within,
      c.len-2.ensures.len,
    )

pub returns-clause-change : goal.returns-clause-change
returns-clause-change c =
    let v = c.args.machine.now in
    let back = c.args.back in
    let window = c.args.window in
    let around = c.octets_around in
    let inner = c.octets_around-2 in
    let range = c.between-range.result in
    let first = c.in_ok-first.first in
    let last = c.last_other-last.result in
    let begins : window.addr + first ≡ range.addr = sym c.between-range.ensures.addr in
    let ends : window.addr + last ≡ range.addr + range.len - 1
    = omega (arith, c.between-range.ensures.addr, c.between-range.ensures.len, c.last_other-last.ensures.from) in
    is_change v back range inner.result.0 inner.result.1 inner.ensures.before inner.ensures.after (omega arith)
    (subst (ChangesOctet v back) begins (changed_there v back window around.result.0 around.result.1
    around.ensures.before around.ensures.after first (omega arith) c.in_ok-first.ensures.other))
    (subst (ChangesOctet v back) ends (changed_there v back window around.result.0 around.result.1
    around.ensures.before around.ensures.after last (omega arith) c.last_other-last.ensures.other))

pub returns-clause-first : goal.returns-clause-first
returns-clause-first c =
    let window = c.args.window in
    let around = c.octets_around in
    subst (LeavesOctets c.args.machine.now c.args.back window.addr) (sym c.between-range.ensures.addr)
    (front_left c.args.machine.now c.args.back window around.result.0 around.result.1 around.ensures.before
    around.ensures.after c.in_ok-first.first (omega arith) c.in_ok-first.ensures.first)

pub returns-clause-rest : goal.returns-clause-rest
returns-clause-rest c =
    let window = c.args.window in
    let around = c.octets_around in
    let last : ℕ = c.last_other-last.result in
    let range = c.between-range.result in
    let ends : window.addr + (last + 1) ≡ range.addr + range.len
    = omega (arith, c.between-range.ensures.addr, c.between-range.ensures.len, c.last_other-last.ensures.from) in
    subst (λ a. LeavesOctets c.args.machine.now c.args.back a (window.addr + window.len)) ends
    (back_left c.args.machine.now c.args.back window around.result.0 around.result.1 around.ensures.before
    around.ensures.after (last + 1)
    (λ j from l. c.last_other-last.ensures.rest j (omega (arith, from)) (omega (arith, c.len-2.ensures.len, l))))
