use Rattle.std.proofs.Common.{◌∙◌, ℕ, Option, Some, false, ap, sym}
use Rattle.std.specs.Prelude.{nat_eq}
use Rattle.std.specs.Option.{option_map_or}
use Rattle.em_watch.specs.declared.watch.Sight.{Sight}
use Rattle.em_warnings.specs.Written.{seen_at, status_of, status_stays}
use Rattle.em_warnings.proofs.WrittenLaws.{newest_is, none_is, seen_is}
use Rattle.em_warnings.proofs.written.is_rewritten.Goals as goal

pub returns-in-Some : goal.returns-in-Some
returns-in-Some c =
    let v = c.args.machine.now in
    let at = c.args.at in
    let watch = c.watched-watch.result in
    let is = c.watched-watch.ensures in
    let change = c.in-Some.change in
    let then = c.status_of.ensures
    ∙ ap status_of (sym c.in-Some.ensures.change.before ∙ seen_is v at change.back watch is) in
    let now = c.status_of-in-Some.ensures ∙ ap (λ (s : Sight). status_of (Some s)) c.seen.ensures
    ∙ ap status_of (seen_is v at 0 watch is) in
    ap (λ (n : ℕ). nat_eq n c.status_of-in-Some.result) then
    ∙ ap (λ (n : ℕ). nat_eq (status_of (seen_at v at change.back)) n) now
    ∙ ap (λ (o : Option ℕ). option_map_or (status_stays v at) o false)
    (sym (newest_is v at watch change is c.in-Some.ensures.change c.in-Some.ensures.within))

pub returns-in-None : goal.returns-in-None
returns-in-None c =
    ap (λ (o : Option ℕ). option_map_or (status_stays c.args.machine.now c.args.at) o false)
    (sym (none_is c.args.machine.now c.args.at c.watched-watch.result c.watched-watch.ensures c.in-None.ensures.none))
