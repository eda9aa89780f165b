-- Records that are written one after another.
use Rattle.std.proofs.Common.{◌≡◌, ◌∙◌, ℕ, zero, suc, ◌+◌, ◌<◌, List, [], ◌∷◌, ◌++◌, length, take, append-nil, append_assoc}
use Rattle.std.proofs.Common.{sym, ap, arith}
use Rattle.std.specs.Prelude.{slice_get, slice_index, unwrap_or}
use Rattle.em_frames.specs.Sent.{frame_text, frames_text}

-- the records of the first frames, and the next one
pub frames_more : (k : ℕ) (times : List ℕ) (wire : List (List ℕ)) → k < length wire → length times ≡ length wire
    → frames_text times (take (k + 1) wire)
    ≡ frames_text times (take k wire) ++ frame_text (slice_index times k) (unwrap_or (slice_get wire k) [])
frames_more k times [] lt same = absurd (omega (arith, lt))
frames_more k [] (f ∷ fs) lt same = absurd (omega (arith, same))
frames_more zero (t ∷ ts) (f ∷ fs) lt same = append-nil (frame_text t f)
frames_more (suc k) (t ∷ ts) (f ∷ fs) lt same =
    let e : suc k + 1 ≡ suc (k + 1) = omega arith in
    ap (λ m. frames_text (t ∷ ts) (take m (f ∷ fs))) e
    ∙ ap (λ l. frame_text t f ++ l) (frames_more k ts fs (omega (arith, lt)) (omega (arith, same)))
    ∙ sym (append_assoc (frame_text t f) (frames_text ts (take k fs)) _)
