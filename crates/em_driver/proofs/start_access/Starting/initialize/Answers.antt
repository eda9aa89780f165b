use Rattle.std.proofs.Common.{◌∙◌, ◌+◌, ap, arith}
use Rattle.std.proofs.lemmas.Result.{err_from_is_err_and}
use Rattle.em_driver.specs.Start.{receive_ring, transmit_ring}
use Rattle.em_driver.proofs.course.StartCourse.{comes_stops, stops_as, stops_at_reset}
use Rattle.em_driver.proofs.course.StartCourse.{at_eeprom, at_receive, at_transmit, at_end}
use Rattle.em_driver.proofs.start_access.Starting.initialize.Goals as goal

pub returns-in_err-global_reset-clause-err : goal.returns-in_err-global_reset-clause-err
returns-in_err-global_reset-clause-err g c =
    let p = err_from_is_err_and c.from_residual.result c.from_residual.ensures.1 in
    rw (p.1, p.2) (stops_at_reset _ c.requires c.in_err-global_reset.ensures.err)

pub returns-in_err-eeprom-clause-err : goal.returns-in_err-eeprom-clause-err
returns-in_err-eeprom-clause-err g c =
    let p = err_from_is_err_and c.from_residual-in_err-eeprom.result c.from_residual-in_err-eeprom.ensures.1 in
    rw (p.1, p.2)
    (comes_stops _ _ _ _ _ _ 4 _ _ _ (at_eeprom _ _ _ c.in_ok-global_reset.ensures.ok)
    (omega (arith, c.in_ok-global_reset.ensures.counted)) c.in_err-eeprom.ensures.err)

pub returns-in_err-receive_ring-clause-err : goal.returns-in_err-receive_ring-clause-err
returns-in_err-receive_ring-clause-err g c =
    let p =
    err_from_is_err_and c.from_residual-in_err-receive_ring.result c.from_residual-in_err-receive_ring.ensures.1 in
    let here =
    at_receive _ _ _ _ _ c.args.self.now.driver.layout _ c.in_ok-global_reset.ensures.ok c.in_ok-eeprom.ensures.ok
    c.receive_address.ensures.performs c.multicast_table.ensures.performs in
    let layout =
    c.multicast_table.ensures.layout ∙ c.receive_address.ensures.layout ∙ c.eeprom.ensures.layout
    ∙ c.global_reset.ensures.layout in
    rw (p.1, p.2)
    (comes_stops _ _ _ _ _ _ 262 _ _ _ here
    (omega (
      arith,
      c.in_ok-global_reset.ensures.counted,
      c.in_ok-eeprom.ensures.counted,
      c.receive_address.ensures.counted,
      c.multicast_table.ensures.counted,
    ))
    (stops_as receive_ring c.in_err-receive_ring.ensures.err layout))

pub returns-in_err-transmit_ring-clause-err : goal.returns-in_err-transmit_ring-clause-err
returns-in_err-transmit_ring-clause-err g c =
    let p =
    err_from_is_err_and c.from_residual-in_err-transmit_ring.result c.from_residual-in_err-transmit_ring.ensures.1 in
    let l = c.args.self.now.driver.layout in
    let here =
    at_receive _ _ _ _ _ l _ c.in_ok-global_reset.ensures.ok c.in_ok-eeprom.ensures.ok
    c.receive_address.ensures.performs c.multicast_table.ensures.performs in
    let layout =
    c.multicast_table.ensures.layout ∙ c.receive_address.ensures.layout ∙ c.eeprom.ensures.layout
    ∙ c.global_reset.ensures.layout in
    let there = at_transmit _ _ _ l here layout c.in_ok-receive_ring.ensures.ok in
    let same = ap (λ k. k.rx_count) layout in
    rw (p.1, p.2)
    (comes_stops _ _ _ _ _ _ (268 + l.rx_count) _ _ _ there
    (omega (
      arith,
      same,
      c.in_ok-global_reset.ensures.counted,
      c.in_ok-eeprom.ensures.counted,
      c.receive_address.ensures.counted,
      c.multicast_table.ensures.counted,
      c.in_ok-receive_ring.ensures.counted,
    ))
    (stops_as transmit_ring c.in_err-transmit_ring.ensures.err (c.receive_ring.ensures.layout ∙ layout)))

pub returns-clause-ok : goal.returns-clause-ok
returns-clause-ok g c =
    let l = c.args.self.now.driver.layout in
    let here =
    at_receive _ _ _ _ _ l _ c.in_ok-global_reset.ensures.ok c.in_ok-eeprom.ensures.ok
    c.receive_address.ensures.performs c.multicast_table.ensures.performs in
    let layout =
    c.multicast_table.ensures.layout ∙ c.receive_address.ensures.layout ∙ c.eeprom.ensures.layout
    ∙ c.global_reset.ensures.layout in
    let there = at_transmit _ _ _ l here layout c.in_ok-receive_ring.ensures.ok in
    let last = c.receive_ring.ensures.layout ∙ layout in
    let same = ap (λ k. k.rx_count) layout in
    let sent = ap (λ k. k.tx_count) last in
    at_end _ _ _ l there last c.in_ok-transmit_ring.ensures.ok
    (omega (
      arith,
      same,
      sent,
      c.in_ok-global_reset.ensures.counted,
      c.in_ok-eeprom.ensures.counted,
      c.receive_address.ensures.counted,
      c.multicast_table.ensures.counted,
      c.in_ok-receive_ring.ensures.counted,
      c.in_ok-transmit_ring.ensures.counted,
    ))
