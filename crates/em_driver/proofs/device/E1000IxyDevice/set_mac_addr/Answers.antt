use Rattle.std.proofs.Common.{◌≡◌, ◌∙◌, ◌+◌, ℕ, List, [], ◌∷◌, take, drop, ap, refl, subst}
use Rattle.byteorder.specs.Endian.{little_number}
use Rattle.em_regs.specs.Table.{offset_of}
use Rattle.em_regs.specs.declared.reg.Reg.{Reg}
use Rattle.em_step.specs.Event.{writes}
use Rattle.em_step.specs.declared.event.Answer.TheVariants.{Done}
use Rattle.em_driver.specs.Course.{Course, write, Follows}
use Rattle.em_driver.specs.World.{World, Accesses}
use Rattle.em_driver.proofs.course.CourseSteps.{ends, writes_on}
use Rattle.em_driver.proofs.order.OtherCalls.{set_mac_addr_order}
use Rattle.em_driver.proofs.device.E1000IxyDevice.set_mac_addr.Goals as goal

-- a write of a value, in other words
written_as : {A : Type 0} {w m : World} (v : World) (reg : Reg) {value other : ℕ} (more : Course A) {n : ℕ} (k : ℕ) (a : A)
    → Accesses w (writes (offset_of reg) other) Done m → other ≡ value → n ≡ 1 + k → Follows m more k a v
    → Follows w (write reg value more) n a v
written_as {w = w} {m = m} v reg {value = value} more {n = n} k a step is count rest =
    writes_on w m v reg value more n k a (subst (λ x. Accesses w (writes (offset_of reg) x) Done m) is step) count rest

first_two : (xs : List ℕ) → little_number 2 (take 2 xs) ≡ little_number 2 xs
first_two [] = refl
first_two (x ∷ []) = refl
first_two (x ∷ y ∷ xs) = refl

pub returns-clause-course : goal.returns-clause-course
returns-clause-course g c =
    let half = little_number 2 (drop 4 c.args.address) in
    let octets : c.from.result ≡ half = c.from.ensures ∙ c.read_u16-high.ensures ∙ first_two (drop 4 c.args.address) in
    let high : c.from.result + c.bits.result ≡ half + 0x8000_0000 = rw (c.bits.ensures tt) (ap (λ x. x + 0x8000_0000) octets) in
    written_as _ _ _ 1 _ c.set.ensures.event c.read_u32-low.ensures refl
    (written_as _ _ _ 0 _ c.set-2.ensures.event high refl (ends _ _))

pub returns-clause-order : goal.returns-clause-order
returns-clause-order g c = λ h. set_mac_addr_order c.args.address 2 h (returns-clause-course g c)
