-- Lists as the code holds them, without where they lie in memory.
use Rattle.std.specs.Prelude.{ℕ, List, map, Vec}
use Rattle.std.specs.Global.{Global}
use Rattle.em_turn.specs.declared.turn.Turn.{Turn}

-- a plan: for each access of a driver the turns before it
abbrev pub planned : List (Vec Turn Global) → List (List Turn)
planned lists = map (λ v. v.items) lists

-- the octets of packets
abbrev pub lists : List (Vec ℕ Global) → List (List ℕ)
lists packets = map (λ packet. packet.items) packets
