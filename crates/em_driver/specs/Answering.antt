-- A course whose answers are put otherwise, so that those of different calls are of one kind.
use Rattle.em_driver.specs.Course.{Course, done, read, write, reset, peek, poke, room}

-- the same accesses; where the course answers a, this one answers f a
unfoldable pub answering : {A B : Type 0} → (A → B) → Course A → Course B
answering f (done answer) = done (f answer)
answering f (read reg next) = read reg (λ value. answering f (next value))
answering f (write reg value more) = write reg value (answering f more)
answering f (reset stopped more) = reset (f stopped) (answering f more)
answering f (peek addr len stopped next) = peek addr len (f stopped) (λ octets. answering f (next octets))
answering f (poke addr octets stopped more) = poke addr octets (λ refusal. f (stopped refusal)) (answering f more)
answering f (room stopped more) = room (f stopped) (answering f more)
