-- Octets that are read one after another.
use Rattle.std.proofs.Common.{◌≡◌, ℕ, ◌+◌, List, ◌++◌, length, take, Option, Some, None, Result, Ok, Err}
use Rattle.std.proofs.Common.{sym, ap, ◌∙◌, subst, append_assoc}
use Rattle.std.specs.Prelude.{IfOk}
use Rattle.std.specs.Io.KnownBytes.{Consumes, ReadConsumes}
use Rattle.std.proofs.Math.Seq.{take-append-add}

-- some, and then more
consumes_more : (from mid new : Option (List ℕ)) (xs ys : List ℕ)
    → Consumes from mid xs → Consumes mid new ys → Consumes from new (xs ++ ys)
consumes_more None mid new xs ys p q = tt
consumes_more (Some zs) None new xs ys p q = absurd p
consumes_more (Some zs) (Some bs) None xs ys p q = absurd q
consumes_more (Some zs) (Some bs) (Some cs) xs ys p q = p ∙ ap (λ l. xs ++ l) q ∙ sym (append_assoc xs ys cs)

-- what was read stands behind the front
pub read_behind_front : {E : Type 0} (r : Result ℕ E) (old new : Option (List ℕ)) (script front buf now : List ℕ) (n : ℕ)
    → ReadConsumes old new r buf → front ≡ take n script → length front ≡ n → now ≡ front ++ buf
    → IfOk r (λ count. (from : Option (List ℕ)) → Consumes from old (take n script)
    → Consumes from new (take (n + count) now))
read_behind_front (Err e) old new script front buf now n read same len is = tt
read_behind_front (Ok count) old new script front buf now n read same len is = λ from before.
    let all : take (n + count) now ≡ take n script ++ take count buf
    = ap (take (n + count)) is ∙ ap (λ (k : ℕ). take (k + count) (front ++ buf)) (sym len)
    ∙ take-append-add front buf count ∙ ap (λ xs. xs ++ take count buf) same in
    subst (Consumes from new) (sym all) (consumes_more from old new (take n script) (take count buf) before read.0)
