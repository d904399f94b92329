-- The rows that are left of a hint from a place on.
use Rattle.std.proofs.Common.{◌≡◌, ℕ, ◌+◌, List, [], ◌∷◌, ◌++◌, length, drop}
use Rattle.std.proofs.Common.{Option, Some, None, refl, sym, ap, subst, ◌∙◌, arith}
use Rattle.std.specs.List.{AllByRecursion}
use Rattle.std.proofs.lemmas.List.{drop-drop, drop_at, length-drop}
use Rattle.bk_base.specs.Bounds.{IsKey}
use Rattle.bk_base.specs.declared.writes.Version.{Version}
use Rattle.bk_laws.specs.Hint.{FitsRow, Hinted, IsSoundRow, RowsLeft, mark_text, row_text, rows_text}
use Rattle.bk_hint.specs.declared.headers.Header.{Header}
use Rattle.bk_hint.specs.Headers.{IsFirstRow, NoRow, row_in}
use Rattle.bk_hint.specs.Passing.{Gives, Reading}
use Rattle.bk_hint.proofs.RowTexts.{first_stands, length-row_text, no_row-mark, one_row, reads}

pub rows_none : (bytes : List ℕ) (at covered : ℕ) (rows : List Hinted)
    → RowsLeft bytes at covered rows → NoRow (drop at bytes) → rows ≡ []
rows_none bytes at covered [] left none = refl
rows_none bytes at covered (r ∷ rs) left none =
    absurd (none r _ (first_stands (drop at bytes) (mark_text covered left.count left.crc) r rs left.fit left.left))

-- the row that was found is the first of those that are left
pub record Next (bytes : List ℕ) (at covered : ℕ) (rows : List Hinted) (r : Hinted) : Type 0 where
  pub later : List Hinted
  pub rows_are : rows ≡ r ∷ later
  pub fits : FitsRow r
  pub sound : IsSoundRow covered r
  pub left : RowsLeft bytes (at + (30 + length r.key)) covered later

next_at : (bytes : List ℕ) (at covered : ℕ) (r : Hinted) (rs : List Hinted)
    → RowsLeft bytes at covered (r ∷ rs) → Next bytes at covered (r ∷ rs) r
next_at bytes at covered r rs left =
    let tail = rows_text rs ++ mark_text covered left.count left.crc in
    let stands = first_stands (drop at bytes) (mark_text covered left.count left.crc) r rs left.fit left.left in
    let read = reads (drop at bytes) r tail stands in
    let behind : drop (30 + length r.key) (drop at bytes) ≡ tail =
    ap (drop (30 + length r.key)) stands.whole ∙ drop_at (row_text r) tail (30 + length r.key) (length-row_text r) in
    record {
      later = rs;
      rows_are = refl;
      fits = left.fit.0;
      sound = left.sound.0;
      left = record {
        count = left.count;
        crc = left.crc;
        fit = left.fit.1;
        sound = left.sound.1;
        here = omega (arith, read.long, length-drop at bytes, left.here);
        left = sym (drop-drop (30 + length r.key) at bytes) ∙ behind;
      };
    }

pub next_is : (bytes : List ℕ) (at covered : ℕ) (rows : List Hinted) (h : Header) (key rest : List ℕ)
    → RowsLeft bytes at covered rows → IsFirstRow (drop at bytes) h key rest
    → Next bytes at covered rows (row_in h key)
next_is bytes at covered [] h key rest left first =
    absurd (no_row-mark covered left.count left.crc (row_in h key) rest
    (record { fits = first.stands.fits; whole = sym left.left ∙ first.stands.whole }))
next_is bytes at covered (r ∷ rs) h key rest left first =
    let stands = first_stands (drop at bytes) (mark_text covered left.count left.crc) r rs left.fit left.left in
    let same = one_row (drop at bytes) r (row_in h key) _ rest stands first.stands in
    subst (λ (x : Hinted). Next bytes at covered (r ∷ rs) x) same.0 (next_at bytes at covered r rs left)

-- the key that was given is one
pub key_given : (bytes : List ℕ) (old new : Reading) (given : Version × List ℕ) (covered : ℕ) (rows : List Hinted)
    → RowsLeft bytes old.at covered rows → Gives bytes old new (Some given) covered rows → IsKey given.1
key_given bytes old new given covered rows left is =
    let fit = subst (AllByRecursion FitsRow) is.2 left.fit in
    subst IsKey (sym is.4) fit.0.key.bounds

-- so the reader goes on
pub left_after : (bytes : List ℕ) (old new : Reading) (found : Option (Version × List ℕ))
    (covered : ℕ) (rows : List Hinted)
    → RowsLeft bytes old.at covered rows → Gives bytes old new found covered rows
    → (later : List Hinted) × RowsLeft bytes new.at covered later
left_after bytes old new None covered rows left is =
    (rows, subst (λ (r : Reading). RowsLeft bytes r.at covered rows) (sym is.1) left)
left_after bytes old new (Some given) covered rows left is = (is.1, is.6)
