-- With its last octet the frame leaves.
use Rattle.std.proofs.Common.{◌≡◌, ◌-◌, nat_le, subst, sym}
use Rattle.em_rx.specs.Fifo.{Cells, rest, shows}
use Rattle.em_rx.specs.Undo.{IsMove, moved_back}
use Rattle.em_rx.specs.declared.places.Places.{Places}
use Rattle.em_rx.proofs.DeliveryLaws.{last_at, last_back, places_left}
use Rattle.em_rx.proofs.fifo.Fifo.places_after.Goals as goal

pub returns-clause-moves : goal.returns-clause-moves
returns-clause-moves c =
    let f = c.self.inside in
    let cells : Cells = record { octets = f.octets.items; entries = f.entries.items; places = f.places } in
    let len = c.first_entry-len.result.len in
    let left : Places
    = record {
      head = c.wrap.result;
      first = c.wrap-2.result;
      count = f.places.count - 1;
      taken = 0;
      used = f.places.used - len;
    } in
    let is : left ≡ places_left f.places len
    = λ i. record {
      head = c.wrap.ensures i;
      first = c.wrap-2.ensures i;
      count = f.places.count - 1;
      taken = 0;
      used = f.places.used - len;
    } in
    let moves = last_at cells c.args.self.now c.self.invariant c.self.view_is c.requires.some c.args.count len
    c.first_entry-len.ensures.len c.if-places-count.false in
    subst (λ (p : Places). IsMove c.args.self.now p c.args.count) (sym is) moves

pub returns-clause-back : goal.returns-clause-back
returns-clause-back c =
    let f = c.self.inside in
    let cells : Cells = record { octets = f.octets.items; entries = f.entries.items; places = f.places } in
    let v = c.args.self.now in
    let len = c.first_entry-len.result.len in
    let left : Places
    = record {
      head = c.wrap.result;
      first = c.wrap-2.result;
      count = f.places.count - 1;
      taken = 0;
      used = f.places.used - len;
    } in
    let is : left ≡ places_left f.places len
    = λ i. record {
      head = c.wrap.ensures i;
      first = c.wrap-2.ensures i;
      count = f.places.count - 1;
      taken = 0;
      used = f.places.used - len;
    } in
    let back = last_back cells v c.self.invariant c.self.view_is c.requires.some c.args.count len
    c.first_entry-len.ensures.len c.if-places-count.false c.requires.count in
    subst (λ (p : Places). moved_back (record v { places = p }) c.args.count (nat_le (rest (shows v)) c.args.count)
    ≡ v.places) (sym is) back
