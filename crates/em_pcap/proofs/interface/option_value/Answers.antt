use Rattle.std.proofs.Common.{◌≡◌, ◌+◌, ◌-◌, false, length, take, drop, min, sym, ap, ◌∙◌, arith}
use Rattle.std.proofs.lemmas.Bool.{eq-eqb, ne_eqb, lt-ltb, le-ltb, or_left, or_right, or_from}
use Rattle.std.proofs.lemmas.List.{take_rest, drop_min}
use Rattle.em_pcap.specs.Options.{option_length, option_value, padded}
use Rattle.em_pcap.proofs.OptionLaws.{is_end, none_at_end, none_in_few, goes_on}
use Rattle.em_pcap.proofs.interface.option_value.Goals as goal

pub returns-then-found-eq-END_OF_OPTIONS : goal.returns-then-found-eq-END_OF_OPTIONS
returns-then-found-eq-END_OF_OPTIONS c =
    let end = or_left _ _ (or_right _ _ (eq-eqb _ _ (sym c.u16_at-found.ensures ∙ c.if-found-eq-END_OF_OPTIONS.true))) in
    sym (none_at_end c.args.order c.args.code c.loop-rest.rest.now end) ∙ c.loop-rest.invariant

pub returns-then-rest-len : goal.returns-then-rest-len
returns-then-rest-len c =
    let order = c.args.order in
    let rest = c.loop-rest.rest.now in
    let short = lt-ltb (length rest) (4 + option_length order rest)
    (omega (arith, c.if-rest-len.true, c.u16_at.ensures, c.from-len.ensures)) in
    sym (none_at_end order c.args.code rest (or_right _ _ short)) ∙ c.loop-rest.invariant

pub loop-rest-preserved : goal.loop-rest-preserved
loop-rest-preserved c =
    let order = c.args.order in
    let code = c.args.code in
    let rest = c.loop-rest.rest.now in
    let n = 4 + padded (option_length order rest) in
    let len : c.from-len.result ≡ option_length order rest = omega (arith, c.u16_at.ensures, c.from-len.ensures) in
    let next : c.min.result ≡ min n (length rest) =
    c.min.ensures ∙ ap (λ k. min (4 + k) (length rest)) (c.padded-next.ensures ∙ ap padded len) in
    let same : take (length rest - c.min.result) (drop c.min.result rest) ≡ drop n rest =
    take_rest rest c.min.result ∙ ap (λ k. drop k rest) next ∙ drop_min n rest in
    let goes : is_end order rest ≡ false =
    or_from _ _ (or_from _ _ (le-ltb _ _ c.loop-rest-test.true)
    (ne_eqb _ _ (λ e. c.if-found-eq-END_OF_OPTIONS.false (c.u16_at-found.ensures ∙ e))))
    (le-ltb (length rest) (4 + option_length order rest) (omega (arith, c.if-rest-len.false, len))) in
    ap (option_value order code 0) same
    ∙ sym (goes_on order code rest c.loop-rest-test.true goes
    (ne_eqb _ _ (λ e. c.if-found-code.false (c.u16_at-found.ensures ∙ e))))
    ∙ c.loop-rest.invariant

pub returns : goal.returns
returns c =
    let rest = c.loop-rest.rest.now in
    sym (none_in_few c.args.order c.args.code rest c.loop-rest-test.false) ∙ c.loop-rest.invariant
