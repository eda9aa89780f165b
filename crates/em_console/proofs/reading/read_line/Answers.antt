use Rattle.std.proofs.Common.{◌≡◌, ◌<◌, ℕ, List, length, sym, subst}
use Rattle.em_console.specs.Reading.{TakesLine, TakesAtHand}
use Rattle.em_console.specs.declared.reading.AtHand.TheVariants.{Part, Last, Nothing}
use Rattle.em_console.proofs.ReadingLaws.{Kept-more, TakesLine-newline, TakesLine-end, IsAtEnd-end}
use Rattle.em_console.proofs.reading.read_line.Goals as goal

pub returns-in-Last-clause-line : goal.returns-in-Last-clause-line
returns-in-Last-clause-line g c =
    let remaining = g.R.Read.remaining in
    let front = c.loop-reads.line.items in
    let line = c.take_at_hand.new.line.items in
    let given = remaining c.args.reader.now in
    let mid = remaining c.loop-reads.reader in
    let rest = remaining c.take_at_hand.new.reader in
    let taken : TakesAtHand mid rest front line Last =
    subst (TakesAtHand mid rest front line) c.in-Last.is c.in_ok-take_at_hand.ensures.taken in
    λ is. subst (TakesLine given rest) (sym {A = List ℕ} c.strip_return.ensures)
    (TakesLine-newline given mid rest front line c.loop-reads.invariant.kept taken)

pub returns-in-Nothing-clause-line : goal.returns-in-Nothing-clause-line
returns-in-Nothing-clause-line g c =
    let remaining = g.R.Read.remaining in
    let front = c.loop-reads.line.items in
    let line = c.take_at_hand.new.line.items in
    let given = remaining c.args.reader.now in
    let mid = remaining c.loop-reads.reader in
    let rest = remaining c.take_at_hand.new.reader in
    let taken : TakesAtHand mid rest front line Nothing =
    subst (TakesAtHand mid rest front line) c.in-Nothing.is c.in_ok-take_at_hand.ensures.taken in
    λ is. subst (TakesLine given rest) (sym taken.0)
    (TakesLine-end given mid rest front c.loop-reads.invariant.kept taken.1 taken.2
    (subst (λ l. 0 < length l) taken.0 (c.at_the_end.ensures.some is)))

pub returns-in-Nothing-clause-end : goal.returns-in-Nothing-clause-end
returns-in-Nothing-clause-end g c =
    let remaining = g.R.Read.remaining in
    let front = c.loop-reads.line.items in
    let line = c.take_at_hand.new.line.items in
    let given = remaining c.args.reader.now in
    let mid = remaining c.loop-reads.reader in
    let rest = remaining c.take_at_hand.new.reader in
    let taken : TakesAtHand mid rest front line Nothing =
    subst (TakesAtHand mid rest front line) c.in-Nothing.is c.in_ok-take_at_hand.ensures.taken in
    λ is. IsAtEnd-end given mid rest front c.loop-reads.invariant.kept
    (subst (λ l. length l ≡ 0) taken.0 (c.at_the_end.ensures.none is)) taken.1 taken.2

pub loop-reads-preserved : goal.loop-reads-preserved
loop-reads-preserved g c =
    let remaining = g.R.Read.remaining in
    let front = c.loop-reads.line.items in
    let line = c.take_at_hand.new.line.items in
    let given = remaining c.args.reader.now in
    let mid = remaining c.loop-reads.reader in
    let rest = remaining c.take_at_hand.new.reader in
    let taken : TakesAtHand mid rest front line Part =
    subst (TakesAtHand mid rest front line) c.in-Part.is c.in_ok-take_at_hand.ensures.taken in
    record {
      short = c.in_ok-take_at_hand.ensures.short;
      kept = Kept-more given mid rest front line c.loop-reads.invariant.kept taken;
    }
