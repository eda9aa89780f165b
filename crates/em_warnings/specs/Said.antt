-- What is said of a warning.
use Rattle.std.specs.Prelude.{ℕ, Bool, false, List, [], ◌∷◌, ◌++◌, codes, decimal, find, Option, Some, None}
use Rattle.std.specs.Str.{bytes_eq}
use Rattle.em_text.specs.Writer.{value_digits}
use Rattle.em_regs.specs.declared.reg.Reg.{Reg}
use Rattle.em_regs.specs.Table.{mask_of}
use Rattle.em_names.specs.Names.{name_of as reg_name}
use Rattle.em_inspect.specs.AddressText.{address_text}
use Rattle.em_warnings.specs.declared.rule.Rule.{Rule}
use Rattle.em_warnings.specs.declared.rule.Rule.TheVariants as rule
use Rattle.em_warnings.specs.declared.warning.Warning.{Warning}
use Rattle.em_warnings.specs.declared.warning.Warning.TheVariants as warning

-- a descriptor that is given to the adapter, and a text behind it
abbrev pub given_text : Reg → ℕ → ℕ → List ℕ → List ℕ
given_text tail index at text =
    reg_name tail
    ++ (codes " gives the adapter descriptor "
    ++ (decimal index ++ (codes " at " ++ (address_text at ++ text))))

-- the name of its rule; and what the rule says, with numbers, and what to do
abbrev pub row_of : Warning → List ℕ × List ℕ
row_of (warning.BitsDropped reg kept written) = (
  codes "bits-dropped",
  reg_name reg
      ++ (codes " keeps "
      ++ (value_digits kept
      ++ (codes " of " ++ (value_digits written ++ (codes ", its bits are " ++ value_digits (mask_of reg)))))),
)
row_of (warning.TailPastRing tail index count) = (
  codes "tail-past-ring",
  reg_name tail
      ++ (codes " "
      ++ (decimal index ++ (codes " is past the ring of " ++ (decimal count ++ codes ", write an index below that")))),
)
row_of (warning.EnabledBeforeRing control length) = (
  codes "enabled-before-ring",
  reg_name control ++ (codes ".EN is set while " ++ (reg_name length ++ codes " is 0, set up the ring first")),
)
row_of (warning.DescriptorUnwritten tail index at) =
    (codes "descriptor-unwritten", given_text tail index at (codes ", all zeros, write it first"))
row_of (warning.StatusLeft tail index at) =
    (codes "status-left", given_text tail index at (codes " with DD set, clear its status first"))
row_of (warning.InterruptsBeforeRings causes length) = (
  codes "interrupts-before-rings",
  codes "IMS lets "
      ++ (value_digits causes
      ++ (codes " through while " ++ (reg_name length ++ codes " is 0, set up the ring first"))),
)
row_of (warning.RingOutsideMemory tail at) = (
  codes "ring-outside-memory",
  reg_name tail
      ++ (codes " gives the adapter descriptors of a ring at "
      ++ (address_text at ++ codes " that leaves guest memory, write its base anew")),
)
row_of (warning.BuffersOverlap tail index at) =
    (codes "buffers-overlap", given_text tail index at (codes " whose buffer lies over another one's, give each octets of its own"))
row_of (warning.TailPastHead tail index count) = (
  codes "tail-past-head",
  reg_name tail
      ++ (codes " "
      ++ (decimal index
      ++ (codes " goes past the head of the ring of " ++ (decimal count ++ codes ", leave one descriptor free")))),
)
row_of (warning.HeadWhileEnabled head control) = (
  codes "head-while-enabled",
  reg_name head ++ (codes " is moved while " ++ (reg_name control ++ codes ".EN is set, clear EN first")),
)
row_of (warning.WrittenWhileOwned head index at) = (
  codes "written-while-owned",
  codes "descriptor "
      ++ (decimal index
      ++ (codes " at "
      ++ (address_text at
      ++ (codes " or its buffer is written while it is the adapter's, wait until "
      ++ (reg_name head ++ codes " is past it"))))),
)
row_of (warning.ReadAgain causes) = (
  codes "read-again",
  codes "ICR is 0, an earlier event cleared "
      ++ (value_digits causes ++ codes " there and the frame still waits, read it once and keep it"),
)

abbrev pub name_of : Warning → List ℕ
name_of w = (row_of w).0

abbrev pub said : Warning → List ℕ
said w = (row_of w).1

-- the front of its line
abbrev pub head_text : Warning → List ℕ
head_text w = codes "warning " ++ (name_of w ++ codes ": ")

-- its line
abbrev pub warning_text : Warning → List ℕ
warning_text w = head_text w ++ (said w ++ codes "\n")

-- ---- the rules by their names

abbrev pub rule_name : Rule → List ℕ
rule_name rule.BitsDropped = codes "bits-dropped"
rule_name rule.TailPastRing = codes "tail-past-ring"
rule_name rule.EnabledBeforeRing = codes "enabled-before-ring"
rule_name rule.DescriptorUnwritten = codes "descriptor-unwritten"
rule_name rule.StatusLeft = codes "status-left"
rule_name rule.InterruptsBeforeRings = codes "interrupts-before-rings"
rule_name rule.RingOutsideMemory = codes "ring-outside-memory"
rule_name rule.BuffersOverlap = codes "buffers-overlap"
rule_name rule.TailPastHead = codes "tail-past-head"
rule_name rule.HeadWhileEnabled = codes "head-while-enabled"
rule_name rule.WrittenWhileOwned = codes "written-while-owned"
rule_name rule.ReadAgain = codes "read-again"

-- all of them, in their order
abbrev pub all_rules : List Rule
all_rules = rule.BitsDropped ∷ rule.TailPastRing ∷ rule.EnabledBeforeRing ∷ rule.DescriptorUnwritten ∷ rule.StatusLeft ∷
    rule.InterruptsBeforeRings ∷ rule.RingOutsideMemory ∷ rule.BuffersOverlap ∷ rule.TailPastHead ∷ rule.HeadWhileEnabled ∷ rule.WrittenWhileOwned ∷ rule.ReadAgain ∷ []

-- the rule that a word names
abbrev pub rule_called : List ℕ → Option Rule
rule_called word = find (λ rule. bytes_eq word (rule_name rule)) all_rules

-- a rule says this
abbrev pub is_of : Rule → Option Warning → Bool
is_of rule None = false
is_of rule (Some w) = bytes_eq (name_of w) (rule_name rule)

abbrev pub found_by : Option (Option Warning) → Option Warning
found_by None = None
found_by (Some w) = w

-- what a rule says, of what rules say of one access
abbrev pub said_by : Rule → List (Option Warning) → Option Warning
said_by rule warnings = found_by (find (is_of rule) warnings)
