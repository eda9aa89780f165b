-- A course whose answers are put otherwise is followed as the course is.
use Rattle.std.proofs.Common.{ℕ, Bool, ap, inl, inr}
use Rattle.em_driver.specs.World.{World}
use Rattle.em_driver.specs.Course.{Course, done, read, write, reset, peek, poke, room, Follows}
use Rattle.em_driver.specs.Play.{Tells, TellsApart}
use Rattle.em_driver.specs.Answering.{answering}

pub answering_follows : {A B : Type 0} (f : A → B) (course : Course A) (w v : World) (n : ℕ) (a : A)
    → Follows w course n a v → Follows w (answering f course) n (f a) v
unfolding Follows answering
answering_follows f (done answer) w v n a h =
    record { events_are = h.events_are; answer_is = ap f h.answer_is; world_is = h.world_is }
answering_follows f (read reg next) w v n a h = (
  h.0,
  record {
    mid = h.1.mid;
    others = h.1.others;
    step = h.1.step;
    count = h.1.count;
    more = answering_follows f (next h.0) h.1.mid v h.1.others a h.1.more;
  },
)
answering_follows f (write reg value more) w v n a h = record {
  mid = h.mid;
  others = h.others;
  step = h.step;
  count = h.count;
  more = answering_follows f more h.mid v h.others a h.more;
}
answering_follows f (reset stopped more) w v n a (inl h) = inl (h.0, h.1, ap f h.2)
answering_follows f (reset stopped more) w v n a (inr h) =
    inr record {
      mid = h.mid;
      others = h.others;
      step = h.step;
      count = h.count;
      more = answering_follows f more h.mid v h.others a h.more;
    }
answering_follows f (peek addr len stopped next) w v n a (inl h) = inl (h.0, h.1, ap f h.2)
answering_follows f (peek addr len stopped next) w v n a (inr h) =
    inr (h.0, h.1, h.2, answering_follows f (next h.0) h.1 v n a h.3)
answering_follows f (poke addr octets stopped more) w v n a (inl h) = inl (h.0, h.1, h.2, ap f h.3)
answering_follows f (poke addr octets stopped more) w v n a (inr h) =
    inr record {
      mid = h.mid;
      others = h.others;
      step = h.step;
      count = h.count;
      more = answering_follows f more h.mid v h.others a h.more;
    }
answering_follows f (room stopped more) w v n a (inl h) =
    inl record { events_are = h.events_are; answer_is = ap f h.answer_is; world_is = h.world_is }
answering_follows f (room stopped more) w v n a (inr h) = inr (answering_follows f more w v n a h)

pub answering_tells : {A B : Type 0} (f : A → B) (says : B → Bool) (course : Course A)
    → Tells (λ a. says (f a)) course → Tells says (answering f course)
unfolding TellsApart answering
answering_tells f says (done answer) h = tt
answering_tells f says (read reg next) h = λ value. answering_tells f says (next value) (h value)
answering_tells f says (write reg value more) h = answering_tells f says more h
answering_tells f says (reset stopped more) h = (h.0, answering_tells f says more h.1)
answering_tells f says (peek addr len stopped next) h = λ octets. answering_tells f says (next octets) (h octets)
answering_tells f says (poke addr octets stopped more) h = (h.0, answering_tells f says more h.1)
answering_tells f says (room stopped more) h = (h.0, answering_tells f says more h.1)
