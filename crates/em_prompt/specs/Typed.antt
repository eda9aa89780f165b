-- What a line says.
use Rattle.std.specs.Prelude.{ℕ, Bool, List}
use Rattle.em_prompt.specs.declared.typed.Shown.{Shown}
use Rattle.em_prompt.specs.declared.typed.Which.{Which}
use Rattle.em_prompt.specs.declared.typed.Typed.{Typed as Lent}
use Rattle.em_prompt.specs.declared.typed.Typed.TheVariants as lent
use Rattle.em_prompt.specs.BenchLine as bench
use Rattle.em_prompt.specs.BenchLine.{BenchLine}
use Rattle.em_prompt.specs.Until as until
use Rattle.em_prompt.specs.Until.{Until}
use Rattle.em_prompt.specs.Watch as watch
use Rattle.em_prompt.specs.Watch.{Watch}

pub data Typed : Type 0 where
  -- a line without a word, or a comment
  silent : Typed
  -- a line of em_bench's
  line : BenchLine → Typed
  -- what is shown, and changes nothing
  show : Shown → Typed
  who : Watch → Which → Typed
  -- the last watch goes on
  who_again : Typed
  back : ℕ → Typed
  back_to : ℕ → Typed
  forward : ℕ → Typed
  forward_to : ℕ → Typed
  goto : ℕ → Typed
  -- to the place of a name
  goto_mark : List ℕ → Typed
  -- the place gets a name
  mark : List ℕ → Typed
  next : ℕ → Typed
  run : Typed
  run_until : Until → Typed
  load : List ℕ → Typed
  save : List ℕ → Typed
  save_over : List ℕ → Typed
  warnings : Bool → Typed
  -- those of the rule that is called so
  warnings_of : List ℕ → Typed
  auto : Bool → Typed
  arrive_next : Typed
  arrive_all : Typed
  pcap : List ℕ → Typed
  pcap_over : List ℕ → Typed
  quit : Typed

-- what the code says, without where its words lie in memory
abbrev pub plain : Lent → Typed
plain lent.Silent = silent
plain (lent.Line l) = line (bench.plain l)
plain (lent.Show shown) = show shown
plain (lent.Who w which) = who (watch.plain w) which
plain lent.WhoAgain = who_again
plain (lent.Back n) = back n
plain (lent.BackTo n) = back_to n
plain (lent.Forward n) = forward n
plain (lent.ForwardTo n) = forward_to n
plain (lent.Goto n) = goto n
plain (lent.GotoMark name) = goto_mark name.now
plain (lent.Mark name) = mark name.now
plain (lent.Next n) = next n
plain lent.Run = run
plain (lent.RunUntil u) = run_until (until.plain u)
plain (lent.Load file) = load file.now
plain (lent.Save file) = save file.now
plain (lent.SaveOver file) = save_over file.now
plain (lent.Warnings on) = warnings on
plain (lent.WarningsOf rule) = warnings_of rule.now
plain (lent.Auto on) = auto on
plain lent.ArriveNext = arrive_next
plain lent.ArriveAll = arrive_all
plain (lent.Pcap file) = pcap file.now
plain (lent.PcapOver file) = pcap_over file.now
plain lent.Quit = quit
