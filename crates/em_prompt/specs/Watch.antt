-- What is watched, as words say it.
use Rattle.std.specs.Prelude.{ℕ, Bool, ◌||◌, List, codes, if◌then◌else◌, Option, Some}
use Rattle.std.specs.Option.{option_map}
use Rattle.std.specs.Str.{bytes_eq}
use Rattle.em_regs.specs.declared.profile.Profile.{Profile}
use Rattle.em_regs.specs.declared.reg.Reg.{Reg}
use Rattle.em_prompt.specs.declared.watch.Watch.{Watch as Coded}
use Rattle.em_prompt.specs.declared.watch.Watch.TheVariants as coded
use Rattle.em_prompt.specs.Register.{named}

pub data Watch : Type 0 where
  register : Reg → Watch
  -- so many octets of guest memory, from an address on
  octets : ℕ → ℕ → Watch
  -- the interrupt line
  line : Watch
  -- the link
  link : Watch
  -- how many frames lie in the FIFO
  frames : Watch
  -- how many frames were sent
  sent : Watch
  -- a word of the PHY
  phy : ℕ → Watch

-- what the code watches, with the number of octets alone
abbrev pub plain : Coded → Watch
plain (coded.Register reg) = register reg
plain (coded.Octets addr len) = octets addr len.octets
plain coded.Line = line
plain coded.Link = link
plain coded.Frames = frames
plain coded.Sent = sent
plain (coded.Phy word) = phy word.number

-- the word PHY, behind which the number of one of its words stands
abbrev pub is_phy : List ℕ → Bool
is_phy word = bytes_eq word (codes "PHY") || bytes_eq word (codes "phy")

-- what one word says; a register of a profile by its name
abbrev pub watched : Profile → List ℕ → Option Watch
watched profile word =
    if bytes_eq word (codes "line") then Some line else
    if bytes_eq word (codes "link") then Some link else
    if bytes_eq word (codes "frames") then Some frames else
    if bytes_eq word (codes "sent") then Some sent else
    option_map register (named profile word)
