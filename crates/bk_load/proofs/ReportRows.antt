-- One file more in a report.
use Rattle.std.proofs.Common.{◌≡◌, ℕ, ◌+◌, ◌-◌, ◌<◌, ◌≤◌, Bool, true, false, cond, nat_lt, Option, Some, None, List, [], ◌∷◌, ◌++◌, length, get_or, take, sym, ap, ◌∙◌, arith, append_assoc}
use Rattle.std.proofs.lemmas.Bool.Decides.{nat_tests}
use Rattle.std.proofs.lemmas.List.{append-nil, take_more}
use Rattle.bk_base.specs.declared.rows.Row.{Row}
use Rattle.bk_hint.specs.declared.judging.Verdict.{Verdict}
use Rattle.bk_keydir.specs.declared.loads.HintNote.{HintNote}
use Rattle.bk_keydir.specs.declared.loads.Torn.{Torn}
use Rattle.bk_load.specs.declared.files.FileFound.{FileFound}
use Rattle.bk_load.specs.Found.{note_if, notes_in, torn_if, torn_in}
use Rattle.bk_load.proofs.Counted.{a_row}

torn-behind : (fs : List FileFound) (f : FileFound) → torn_in (fs ++ f ∷ []) ≡ torn_in fs ++ torn_if f.row
torn-behind [] f = append-nil (torn_if f.row)
torn-behind (g ∷ gs) f =
    ap (λ (ts : List Torn). torn_if g.row ++ ts) (torn-behind gs f)
    ∙ sym (append_assoc (torn_if g.row) (torn_in gs) (torn_if f.row))

pub torn_more : (fs : List FileFound) (n : ℕ) (d : FileFound) → n < length fs
    → torn_in (take (n + 1) fs) ≡ torn_in (take n fs) ++ torn_if (get_or fs n d).row
torn_more fs n d lt = ap torn_in (take_more fs n d lt) ∙ torn-behind (take n fs) (get_or fs n d)

notes-behind : (fs : List FileFound) (f : FileFound) → notes_in (fs ++ f ∷ []) ≡ notes_in fs ++ note_if f.row.id f.verdict
notes-behind [] f = append-nil (note_if f.row.id f.verdict)
notes-behind (g ∷ gs) f =
    ap (λ (ns : List HintNote). note_if g.row.id g.verdict ++ ns) (notes-behind gs f)
    ∙ sym (append_assoc (note_if g.row.id g.verdict) (notes_in gs) (note_if f.row.id f.verdict))

pub notes_more : (fs : List FileFound) (n : ℕ) (d : FileFound) → n < length fs
    → notes_in (take (n + 1) fs) ≡ notes_in (take n fs) ++ note_if (get_or fs n d).row.id (get_or fs n d).verdict
notes_more fs n d lt = ap notes_in (take_more fs n d lt) ∙ notes-behind (take n fs) (get_or fs n d)

-- what a read past the end gives
abbrev pub a_found : FileFound
a_found = record { row = a_row; verdict = None }

pub torn_yes : (fs : List FileFound) (n : ℕ) (before later : List Torn) → n < length fs → before ≡ torn_in (take n fs)
    → (get_or fs n a_found).row.total < (get_or fs n a_found).row.len
    → later ≡ before ++ (record {
      at = (get_or fs n a_found).row.total;
      bytes = (get_or fs n a_found).row.len - (get_or fs n a_found).row.total;
      file = (get_or fs n a_found).row.id;
    }) ∷ []
    → later ≡ torn_in (take (n + 1) fs)
torn_yes fs n before later lt is torn added =
    let r : Row = (get_or fs n a_found).row in
    let one : Torn = record { at = r.total; bytes = r.len - r.total; file = r.id } in
    let test : nat_lt r.total r.len ≡ true = grind (arith, nat_tests, torn) in
    added ∙ ap (λ (ts : List Torn). ts ++ one ∷ []) is
    ∙ ap (λ (b : Bool). torn_in (take n fs) ++ cond b (one ∷ []) []) (sym test) ∙ sym (torn_more fs n a_found lt)

pub torn_no : (fs : List FileFound) (n : ℕ) (before later : List Torn) → n < length fs → before ≡ torn_in (take n fs)
    → (get_or fs n a_found).row.len ≤ (get_or fs n a_found).row.total → later ≡ before → later ≡ torn_in (take (n + 1) fs)
torn_no fs n before later lt is whole kept =
    let r : Row = (get_or fs n a_found).row in
    let one : Torn = record { at = r.total; bytes = r.len - r.total; file = r.id } in
    let test : nat_lt r.total r.len ≡ false = grind (arith, nat_tests, whole) in
    kept ∙ is ∙ sym (append-nil (torn_in (take n fs)))
    ∙ ap (λ (b : Bool). torn_in (take n fs) ++ cond b (one ∷ []) []) (sym test) ∙ sym (torn_more fs n a_found lt)

pub notes_yes : (fs : List FileFound) (n : ℕ) (before later : List HintNote) (v : Verdict) → n < length fs
    → before ≡ notes_in (take n fs) → (get_or fs n a_found).verdict ≡ Some v
    → later ≡ before ++ (record { verdict = v; file = (get_or fs n a_found).row.id }) ∷ []
    → later ≡ notes_in (take (n + 1) fs)
notes_yes fs n before later v lt is some added =
    added ∙ ap (λ (ns : List HintNote). ns ++ (record { verdict = v; file = (get_or fs n a_found).row.id }) ∷ []) is
    ∙ ap (λ (o : Option Verdict). notes_in (take n fs) ++ note_if (get_or fs n a_found).row.id o) (sym some)
    ∙ sym (notes_more fs n a_found lt)

pub notes_no : (fs : List FileFound) (n : ℕ) (before later : List HintNote) → n < length fs → before ≡ notes_in (take n fs)
    → (get_or fs n a_found).verdict ≡ None → later ≡ before → later ≡ notes_in (take (n + 1) fs)
notes_no fs n before later lt is none kept =
    kept ∙ is ∙ sym (append-nil (notes_in (take n fs)))
    ∙ ap (λ (o : Option Verdict). notes_in (take n fs) ++ note_if (get_or fs n a_found).row.id o) (sym none)
    ∙ sym (notes_more fs n a_found lt)
