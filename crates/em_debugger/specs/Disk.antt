-- What is done at a disk, and what is said of it.
use Rattle.std.specs.Prelude.{◌≡◌, ℕ, Bool, true, false, List, ◌++◌, codes, Option, Some, None}
use Rattle.em_debugger.specs.declared.disk.DiskFault.{DiskFault}
use Rattle.em_debugger.specs.declared.disk.DiskFault.TheVariants.{Missing, Exists, Name, TooLarge, Compressed, Memory, Failed}

-- one thing that is done at a disk, with a file of a name
pub data Deed : Type 0 where
  -- it was read, and it holds exactly these octets
  Read : (name text : List ℕ) → Deed
  -- it was made, where none was, and it holds exactly these octets
  Made : (name text : List ℕ) → Deed
  -- it was made, in the place of one that may have been there, and it holds exactly these octets
  Replaced : (name text : List ℕ) → Deed
  -- it was not read or made, and is as it was
  Refused : (name : List ℕ) (fault : DiskFault) → Deed

-- between two states of a disk this was done, or nothing
abbrev pub Did : {D : Type 0} → (D → Deed → D → Type 0) → D → D → Option Deed → Type 0
Did passes before after None = after ≡ before
Did passes before after (Some deed) = passes before deed after

-- a file is made; one that is there already is replaced only where that is asked for
abbrev pub making : Bool → List ℕ → List ℕ → Deed
making true name text = Replaced name text
making false name text = Made name text

-- what is said of a fault, behind the name of the file
abbrev pub disk_text : DiskFault → List ℕ
disk_text Missing = codes ": there is no such file\n"
disk_text Exists = codes ": the file is there already; save! and pcap! replace it\n"
disk_text Name = codes ": this is no name of a file\n"
disk_text TooLarge = codes ": it has more than 4194304 octets\n"
disk_text Compressed = codes ": it is compressed by gzip: unpack it first\n"
disk_text Memory = codes ": no memory for it\n"
disk_text Failed = codes ": the system refuses it\n"

-- a file was not made: the disk says why; or no memory was left for what it was to hold, and nothing was done
pub data Unmade (did : Option Deed → Type 0) (name : List ℕ) (fault : DiskFault) : Type 0 where
  refused : did (Some (Refused name fault)) → Unmade did name fault
  no_memory : did None → fault ≡ Memory → Unmade did name fault

-- a file of this name was made, which holds exactly these octets, and this is told; or none was, and why is told
pub data Stores (did : Option Deed → Type 0) (over : Bool) (name holds told text : List ℕ) : Type 0 where
  stored : did (Some (making over name holds)) → text ≡ told → Stores did over name holds told text
  unstored : (fault : DiskFault) → Unmade did name fault → text ≡ name ++ disk_text fault
      → Stores did over name holds told text
