-- What is known of lines, so that they can be done again by themselves, or taken back.
use Rattle.std.specs.Prelude.{◌≡◌, ℕ, ◌+◌, ◌≤◌, suc, Bool, List, [], ◌∷◌, length, map, take, Option, Some, None}
use Rattle.std.specs.Option.{option_map}
use Rattle.em_line.specs.Grammar.{parsed_line}
use Rattle.em_line.specs.ParsedLine.{ParsedLine}
use Rattle.em_script.specs.PlayedLine.{PlayedLine, ArePlayed, after_all, after_played}
use Rattle.em_script.specs.Reply.{after_line}
use Rattle.em_script.specs.Session.{Session}
use Rattle.em_tape.specs.Kind.{SaysEvent}
use Rattle.em_named.specs.declared.did.Did.{Did}
use Rattle.em_tape.specs.Tape.{AreNoted, taken_back}
use Rattle.em_tape.specs.declared.known.Known.{Known}
use Rattle.em_tape.specs.declared.known.Known.TheVariants.{Nothing, OneEvent, Other}

-- one event was performed, and the journal holds it beside all that it held before
pub record PerformsOne (parsed : ParsedLine) (before after : Session) : Type 0 where
  pub says : SaysEvent parsed
  pub session : after ≡ after_line None parsed before
  pub held : length after.machine.past ≡ length before.machine.past + 1
  pub undone : taken_back 1 after ≡ before

-- what was said so was done
abbrev pub Does : Known → ParsedLine → Session → Session → Type 0
Does Nothing parsed before after = after ≡ before
Does OneEvent parsed before after = PerformsOne parsed before after
Does Other parsed before after = Unit {0}

-- by each of the lines, one after another
abbrev pub AllDo : List Known → List PlayedLine → Session → Type 0
AllDo [] all session = Unit {0}
AllDo (one ∷ rest) [] session = ⊥
AllDo (one ∷ rest) (played ∷ all) session =
    Does one (parsed_line played.line) session (after_played played session)
    × AllDo rest all (after_played played session)

-- how many events these are, where none of the lines did something else
abbrev pub events_in : List Known → Option ℕ
events_in [] = Some 0
events_in (Nothing ∷ rest) = events_in rest
events_in (OneEvent ∷ rest) = option_map suc (events_in rest)
events_in (Other ∷ rest) = None

-- such lines, played one after another
pub record AreDone (all : List PlayedLine) (known : List Known) (lines : List (List ℕ)) (first : Session) : Type 0 where
  pub each : map (λ played. played.line) all ≡ lines
  pub does : AllDo known all first

-- the session stands behind the first `whole` of the lines of which so much is known, with so many of their newest
-- events taken back; and it is noted what each did with events
pub record IsKnown (first : Session) (lines : List (List ℕ)) (did : List Did) (answered : Bool) (marks : List Known)
    (whole back : ℕ) (now : Session) : Type 0 where
  pub all : List PlayedLine
  pub played : ArePlayed all (take (length marks) lines) first
  pub does : AllDo marks all first
  pub noted : AreNoted answered (take (length marks) did) all first
  pub within : whole ≤ length marks
  pub known : length marks ≤ length lines
  pub performed : length marks ≤ length did
  pub session : now ≡ taken_back back (after_all (take whole all) first)
