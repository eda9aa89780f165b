-- Names of the PHY's words: 0 to 10 as in IEEE 802.3, clause 22, and the part's own.
use Rattle.std.specs.Prelude.{ℕ, ◌==◌, if◌then◌else◌, List, codes}

-- behind a blank; nothing of a word that has none
abbrev pub phy_name : ℕ → List ℕ
phy_name k =
    if k == 0 then codes " control" else
    if k == 1 then codes " status" else
    if k == 2 then codes " identifier 1" else
    if k == 3 then codes " identifier 2" else
    if k == 4 then codes " advertisement" else
    if k == 5 then codes " partner" else
    if k == 6 then codes " expansion" else
    if k == 9 then codes " 1000BASE-T control" else
    if k == 10 then codes " 1000BASE-T status" else
    if k == 16 then codes " specific control" else
    if k == 17 then codes " specific status" else
    codes ""
