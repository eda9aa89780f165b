use Rattle.std.proofs.Common.{subst, arith, rules}
use Rattle.std.specs.Io.BufRead.{FillKeeps}
use Rattle.em_console.proofs.ReadingLaws.{Shows, TakesAtHand-part, TakesAtHand-last}
use Rattle.em_console.proofs.reading.take_at_hand.Goals as goal

pub returns-then-end-octets-clause-taken : goal.returns-then-end-octets-clause-taken
returns-then-end-octets-clause-taken g c =
    let end = c.line_len-end in
    let rested = c.fill_buf.follows.lender-at-none in
    let remaining = g.R.Read.remaining in
    let given = remaining c.args.reader.now in
    let mid = remaining rested in
    let most = g.R.BufRead.consumable_len rested in
    let filled = subst (FillKeeps _ mid most) c.in-Ok.is c.fill_buf.follows.holds-at-none in
    let shows : Shows given mid most c.in-Ok.octets.now =
    record { front = c.in-Ok.ensures.front; end = c.in-Ok.ensures.end; kept = filled.0; fits = filled.1 } in
    TakesAtHand-part given mid (remaining c.consume.new.self) most c.in-Ok.octets.now c.args.line.now.items
    c.extend_from_slice.new.self.items end.result shows end.ensures.value
    (search rules) (search rules) (search rules) c.consume.ensures.bytes

pub returns-clause-taken : goal.returns-clause-taken
returns-clause-taken g c =
    let end = c.line_len-end in
    let rested = c.fill_buf.follows.lender-at-none in
    let remaining = g.R.Read.remaining in
    let given = remaining c.args.reader.now in
    let mid = remaining rested in
    let most = g.R.BufRead.consumable_len rested in
    let filled = subst (FillKeeps _ mid most) c.in-Ok.is c.fill_buf.follows.holds-at-none in
    let shows : Shows given mid most c.in-Ok.octets.now =
    record { front = c.in-Ok.ensures.front; end = c.in-Ok.ensures.end; kept = filled.0; fits = filled.1 } in
    TakesAtHand-last given mid (remaining c.consume-2.new.self) most c.in-Ok.octets.now c.args.line.now.items
    c.extend_from_slice.new.self.items end.result shows end.ensures.value
    (omega (arith, end.ensures.within, c.if-end-octets.false)) (search rules) c.consume-2.ensures.bytes
