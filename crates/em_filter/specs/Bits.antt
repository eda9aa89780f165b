-- What the filters read of the registers, by the manual's names.
use Rattle.std.specs.Prelude.{ℕ, ◌/◌, ◌%◌, ◌^◌, ◌&&◌, ◌||◌, Bool, true, false}
use Rattle.em_regs.specs.declared.profile.Profile.{Profile}
use Rattle.em_regs.specs.declared.profile.Profile.TheVariants.{Table, Adapter}
use Rattle.em_regs.specs.declared.reg.Reg.TheVariants.{Ctrl, Vet, Rctl, Mta, Ral, Rah, Vfta}
use Rattle.em_regs.specs.Storage.{Registers}
use Rattle.em_regs.specs.Setup.{value_of, has}

abbrev pub rctl : Registers → ℕ
rctl s = value_of s Rctl

-- bit 3
abbrev pub upe : Registers → Bool
upe s = has (rctl s) (2 ^ 3)

-- bit 4
abbrev pub mpe : Registers → Bool
mpe s = has (rctl s) (2 ^ 4)

-- bit 5
abbrev pub lpe : Registers → Bool
lpe s = has (rctl s) (2 ^ 5)

-- bits 13:12
abbrev pub mo : Registers → ℕ
mo s = rctl s / 2 ^ 12 % 4

-- bit 15
abbrev pub bam : Registers → Bool
bam s = has (rctl s) (2 ^ 15)

-- bit 18
abbrev pub vfe : Registers → Bool
vfe s = has (rctl s) (2 ^ 18)

-- some bits act in the second profile alone
abbrev pub is_second : Profile → Bool
is_second Table = false
is_second Adapter = true

-- bit 2
abbrev pub sbp : Profile → Registers → Bool
sbp p s = is_second p && has (rctl s) (2 ^ 2)

-- long frames are taken: with LPE, and with SBP, since without LPE they are bad frames
abbrev pub takes_long : Profile → Registers → Bool
takes_long p s = sbp p s || lpe s

-- bit 19
abbrev pub cfien : Profile → Registers → Bool
cfien p s = is_second p && has (rctl s) (2 ^ 19)

-- bit 20
abbrev pub cfi : Registers → Bool
cfi s = has (rctl s) (2 ^ 20)

-- bit 22
abbrev pub dpf : Profile → Registers → Bool
dpf p s = is_second p && has (rctl s) (2 ^ 22)

-- bit 23
abbrev pub pmcf : Profile → Registers → Bool
pmcf p s = is_second p && has (rctl s) (2 ^ 23)

-- bit 30
abbrev pub vme : Registers → Bool
vme s = has (value_of s Ctrl) (2 ^ 30)

abbrev pub vet : Registers → ℕ
vet s = value_of s Vet

abbrev pub mta : Registers → ℕ → ℕ
mta s i = value_of s (Mta i)

abbrev pub vfta : Registers → ℕ → ℕ
vfta s i = value_of s (Vfta i)

abbrev pub ral : Registers → ℕ → ℕ
ral s i = value_of s (Ral i)

abbrev pub rah : Registers → ℕ → ℕ
rah s i = value_of s (Rah i)

-- bit 31
abbrev pub av : Registers → ℕ → Bool
av s i = has (rah s i) (2 ^ 31)

-- bits 17:16; the field's name is a reserved word
abbrev pub as_of : Registers → ℕ → ℕ
as_of s i = rah s i / 2 ^ 16 % 4
