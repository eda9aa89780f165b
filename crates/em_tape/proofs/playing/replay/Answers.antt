use Rattle.std.proofs.Common.{◌≡◌, ◌+◌, ◌≤◌, ◌<◌, ◌∷◌, ◌++◌, ◌∙◌, [], ◌⊎◌, true, false, Some, length, take, sym, ap, subst, arith}
use Rattle.std.proofs.lemmas.List.{length-append, length-map, take_all}
use Rattle.std.proofs.lemmas.Option.{slice_get_within}
use Rattle.std.specs.Prelude.{is_ok, not, slice_get}
use Rattle.em_line.specs.Grammar.{parsed_line}
use Rattle.em_script.specs.Did.{did_of}
use Rattle.em_tape.specs.Texts.{texts}
use Rattle.em_tape.specs.Known.{IsKnown}
use Rattle.em_tape.specs.Moves.{has_at}
use Rattle.em_tape.proofs.AgainLaws.{known_next}
use Rattle.em_tape.proofs.KeptLaws.{told_of}
use Rattle.em_tape.proofs.NotedLaws.{has_is}
use Rattle.em_tape.proofs.TapeLaws.{line_in, short_at, take-more}
use Rattle.em_tape.proofs.playing.replay.Goals as goal

pub play-requires : goal.play-requires
play-requires c =
    let is : slice_get (texts c.args.lines.now) c.loop-line.line-index ≡ Some c.as_slice.result.now
    = line_in c.args.lines.now c.loop-line.line-index c.line-item.result c.loop-line-test.true c.line-item.is
    ∙ ap Some (sym c.as_slice.ensures) in
    short_at (texts c.args.lines.now) c.loop-line.line-index c.as_slice.result.now c.requires.short is

pub loop-line-preserved : goal.loop-line-preserved
loop-line-preserved c =
    let ls = c.args.lines.now in
    let did = c.args.did.now in
    let k = c.loop-line.line-index in
    let marks = c.loop-line.known.items in
    let is : slice_get (texts ls) k ≡ Some c.as_slice.result.now =
    line_in ls k c.line-item.result c.loop-line-test.true c.line-item.is ∙ ap Some (sym c.as_slice.ensures) in
    let within : k + 1 ≤ length (texts ls) = omega (arith, c.loop-line-test.true, length-map ls (λ v. v.items)) in
    let played = c.in-Some.played in
    let is_played = c.in-Some.ensures.done in
    let m = played.known in
    let index : c.len.result ≡ k = omega (arith, c.len.ensures, c.loop-line.invariant.all) in
    let at : slice_get did k ≡ Some played.did =
    has_is (slice_get did k) played.did
    (ap (λ n. has_at (slice_get did n) played.did) (sym index)
    ∙ sym c.is_noted.ensures ∙ c.if-not-is_noted.false) in
    let answered : is_ok played.replied ≡ true = c.is_err.ensures.negation ∙ ap not c.if-is_err.false in
    let lt : k < length did = slice_get_within did k played.did at in
    let next = known_next m c.as_slice.result.now played.did did true c.loop-line.invariant.known is within
    is_played.performs is_played.known (take-more k did played.did at) (omega arith)
    (λ told. told_of true true (subst (λ b. (b ≡ false) ⊎
    (played.did ≡ did_of is_played.performs.memory (parsed_line c.as_slice.result.now) c.loop-line.session)) answered
    is_played.did) told) in
    let all : take k marks ++ m ∷ [] ≡ marks ++ m ∷ [] =
    ap (λ ds. ds ++ m ∷ []) (take_all k marks (omega (arith, c.loop-line.invariant.all))) in
    record {
      known = subst (λ ds. IsKnown c.args.session.now (texts ls) did true ds (k + 1) 0 c.play.new.session)
          (all ∙ sym c.in-Ok.ensures.items) next;
      all = ap length c.in-Ok.ensures.items ∙ length-append marks (m ∷ [])
          ∙ ap (λ n. n + 1) c.loop-line.invariant.all;
      number = omega arith;
      room = c.in-Some.ensures.room;
    }
