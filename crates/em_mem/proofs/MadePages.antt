-- More made pages change neither what fits nor what an undo shows.
use Rattle.std.proofs.Common.{refl, sym, ap, ◌∙◌, ◌+◌, ◌≤◌, length, subst}
use Rattle.em_mem.specs.Memory.{Cells, Patch, Fits, MorePages, put, undo}

-- cells have as many pages made as they have
pub more_same : (c : Cells) → MorePages c c
more_same c = record { base = refl; octets = refl; made = λ p is. is }

pub more_trans : (c d e : Cells) → MorePages c d → MorePages d e → MorePages c e
more_trans c d e first then = record {
  base = then.base ∙ first.base;
  octets = then.octets ∙ first.octets;
  made = λ p is. then.made p (first.made p is);
}

-- what fits still fits where more pages are made
pub fits_after : (c d : Cells) (p : Patch) → MorePages c d → Fits c p → Fits d p
fits_after c d p more fits = record {
  held = record {
    from = subst (λ b. b ≤ p.at) (sym more.base) fits.held.from;
    to = subst (λ m. p.at + length p.octets ≤ length m) (sym more.octets) fits.held.to;
  };
  made = λ i l. more.made _ (fits.made i l);
}

-- an undo leaves as many pages more made as there were
pub undo_after : (c d : Cells) (p : Patch) → MorePages c d → MorePages (undo c p) (undo d p)
undo_after c d p more = record {
  base = more.base;
  octets = ap (λ m. put m p.at p.octets) more.octets;
  made = more.made;
}
