-- The plan that the words of a line say: for each access of a driver to come, the turns of others before it.
use Rattle.std.specs.Prelude.{ℕ, List, [], ◌∷◌, Option, Some, None, option_and_then}
use Rattle.std.specs.Option.{option_map}
use Rattle.em_turn.specs.declared.turn.Turn.{Turn}
use Rattle.em_turn.specs.declared.turn.Turn.TheVariants.{Arrive, RxStep, TxStep}
use Rattle.em_line.specs.Frame.{frame_of}
use Rattle.em_line.specs.TurnWord.{TurnWord, ends, receives, transmits, arrives, turn_word}

-- the turn that a word says, or none where it says the end of those before an access
abbrev pub turn_of : TurnWord → Option (Option Turn)
turn_of ends = Some None
turn_of receives = Some (Some RxStep)
turn_of transmits = Some (Some TxStep)
turn_of (arrives digits) = option_map (λ octets. Some (Arrive octets)) (frame_of digits)

abbrev pub said_turn : List ℕ → Option (Option Turn)
said_turn word = option_and_then turn_of (turn_word word)

-- a word's turn, or the end, before the plan of the words behind it
abbrev pub led_by : Option Turn → List (List Turn) → List (List Turn)
led_by None plan = [] ∷ plan
led_by (Some t) [] = (t ∷ []) ∷ []
led_by (Some t) (turns ∷ plan) = (t ∷ turns) ∷ plan

abbrev pub plan_with : Option (Option Turn) → Option (List (List Turn)) → Option (List (List Turn))
plan_with (Some turn) (Some plan) = Some (led_by turn plan)
plan_with _ _ = None

-- the plan of all words
abbrev pub plan_of : List (List ℕ) → Option (List (List Turn))
plan_of [] = Some ([] ∷ [])
plan_of (word ∷ words) = plan_with (said_turn word) (plan_of words)
