-- The live bytes of a file, by the keys of a keydir: those of the records that the keys' newest versions name.
use Rattle.std.proofs.Common.{◌≡◌, ◌∙◌, ◌==◌, ◌⊎◌, ◌&&◌, ◌||◌, ℕ, ◌+◌, Bool, true, false, not, cond, List, [], ◌∷◌, Option, None, Some, refl, sym, ap, subst, inl, inr, eq-eqb, eqb-true}
use Rattle.std.specs.List.{IsDistinct}
use Rattle.std.specs.Map.{keys_of}
use Rattle.std.specs.Str.{bytes_eq}
use Rattle.std.proofs.lemmas.Bool.{not-true, false_from_ne_true, cases_Bool, true≢false}
use Rattle.std.proofs.lemmas.Map.Keys.{IsDistinct-head, IsDistinct-tail}
use Rattle.bk_base.specs.declared.writes.Version.{Version}
use Rattle.bk_image.specs.Readings.{In}
use Rattle.bk_keydir.specs.Counts.{bytes_if, is_put_in, live_of}
use Rattle.bk_keydir.specs.Keydir.{Entry, newest_of, versions_of}
use Rattle.bk_load.proofs.KeptKeys.{all_in}
use Rattle.bk_store.proofs.Keys.{key_is, key_same}
use Rattle.bk_report.proofs.Picked.{AreUnlike, sum_where, where_either, where_none, where_one, where_same}

-- ---- tests

pub both : (a b : Bool) → (a && b) ≡ true → (a ≡ true) × (b ≡ true)
both true true is = (refl, refl)
both true false is = absurd (true≢false (sym is))
both false b is = absurd (true≢false (sym is))

pub and_true : (a b : Bool) → a ≡ true → b ≡ true → (a && b) ≡ true
and_true true b p q = q
and_true false b p q = absurd (true≢false (sym p))

either : (a b : Bool) → (a || b) ≡ true → (a ≡ true) ⊎ (b ≡ true)
either true b is = inl refl
either false b is = inr is

either_true : (a b : Bool) → (a ≡ true) ⊎ (b ≡ true) → (a || b) ≡ true
either_true true b is = refl
either_true false b (inl is) = absurd (true≢false (sym is))
either_true false b (inr is) = is

same_test : (a b : Bool) → (a ≡ true → b ≡ true) → (b ≡ true → a ≡ true) → a ≡ b
same_test true b there back = sym (there refl)
same_test false true there back = back refl
same_test false false there back = refl

pub put_here : (id : ℕ) (v : Version) → v.gone ≡ false → v.file.0 ≡ id → is_put_in id v ≡ true
put_here id v put file = and_true (not v.gone) (v.file.0 == id) (ap not put) (eq-eqb v.file.0 id file)

in_keys : (es : List Entry) (e : Entry) → In e es → In e.0 (keys_of es)
in_keys [] e is_in = absurd is_in
in_keys (x ∷ xs) e (inl is) = inl (ap (λ (y : Entry). y.0) is)
in_keys (x ∷ xs) e (inr later) = inr (in_keys xs e later)

pub newest_entry : (key : List ℕ) (es : List Entry) (v : Version) → newest_of (versions_of key es) ≡ Some v
    → (e : Entry) × In e es × (bytes_eq key e.0 ≡ true) × (newest_of e.1 ≡ Some v)
newest_entry key [] v is = absurd (cc is)
newest_entry key (e ∷ es) v is = go (bytes_eq key e.0) refl is (newest_entry key es v) where
  go : (b : Bool) → bytes_eq key e.0 ≡ b → newest_of (cond b e.1 (versions_of key es)) ≡ Some v
      → (newest_of (versions_of key es) ≡ Some v
      → (x : Entry) × In x es × (bytes_eq key x.0 ≡ true) × (newest_of x.1 ≡ Some v))
      → (x : Entry) × In x (e ∷ es) × (bytes_eq key x.0 ≡ true) × (newest_of x.1 ≡ Some v)
  go true here found others = (e, inl refl, here, found)
  go false other found others = let (x, there, same, is_x) = others found in (x, inr there, same, is_x)

-- ---- what the entries of a keydir name of some records of a file: by their keys, and by a mark that tells them apart

module _ {X : Type 0} (size : X → ℕ) (key_of : X → List ℕ) (mark : X → ℕ) (mark_of : Version → ℕ) (id : ℕ) where
  -- the record of this version
  pub record IsOf (key : List ℕ) (v : Version) (x : X) : Type 0 where
    pub key_is : key_of x ≡ key
    pub put : v.gone ≡ false
    pub file : v.file.0 ≡ id
    pub mark_is : mark_of v ≡ mark x

  abbrev names_by : List ℕ → Option Version → X → Bool
  names_by key None x = false
  names_by key (Some v) x = bytes_eq (key_of x) key && (is_put_in id v && (mark_of v == mark x))

  names_it : (key : List ℕ) (v : Version) (x : X) → IsOf key v x → names_by key (Some v) x ≡ true
  names_it key v x is =
      and_true (bytes_eq (key_of x) key) (is_put_in id v && (mark_of v == mark x)) (key_same (key_of x) key is.key_is)
      (and_true (is_put_in id v) (mark_of v == mark x) (put_here id v is.put is.file) (eq-eqb (mark_of v) (mark x) is.mark_is))

  named_by : (key : List ℕ) (v : Version) (x : X) → names_by key (Some v) x ≡ true → IsOf key v x
  named_by key v x is =
      let (same, rest) = both (bytes_eq (key_of x) key) (is_put_in id v && (mark_of v == mark x)) is in
      let (put, marks) = both (is_put_in id v) (mark_of v == mark x) rest in
      let (kept, file) = both (not v.gone) (v.file.0 == id) put in
      record {
        key_is = key_is (key_of x) key same;
        put = not-true v.gone kept;
        file = eqb-true v.file.0 id file;
        mark_is = eqb-true (mark_of v) (mark x) marks;
      }

  abbrev names : Entry → X → Bool
  names e x = names_by e.0 (newest_of e.1) x

  abbrev some_names : List Entry → X → Bool
  some_names [] x = false
  some_names (e ∷ es) x = names e x || some_names es x

  -- the entry that names it, and its newest version
  pub record IsNamed (keys : List Entry) (x : X) : Type 0 where
    pub entry : Entry
    pub is_in : In entry keys
    pub version : Version
    pub newest : newest_of entry.1 ≡ Some version
    pub is : IsOf entry.0 version x

  named_of : (e : Entry) (o : Option Version) (x : X) → newest_of e.1 ≡ o → names_by e.0 o x ≡ true
      → (v : Version) × (newest_of e.1 ≡ Some v) × IsOf e.0 v x
  named_of e None x newest is = absurd (true≢false (sym is))
  named_of e (Some v) x newest is = (v, newest, named_by e.0 v x is)

  named_in : (es : List Entry) (x : X) → some_names es x ≡ true → IsNamed es x
  named_in [] x is = absurd (true≢false (sym is))
  named_in (e ∷ es) x is = go (either (names e x) (some_names es x) is) (named_in es x) where
    go : (names e x ≡ true) ⊎ (some_names es x ≡ true) → (some_names es x ≡ true → IsNamed es x) → IsNamed (e ∷ es) x
    go (inl here) later =
        let (v, newest, is_of) = named_of e (newest_of e.1) x refl here in
        record { entry = e; is_in = inl refl; version = v; newest = newest; is = is_of }
    go (inr there) later =
        let n = later there in
        record { entry = n.entry; is_in = inr n.is_in; version = n.version; newest = n.newest; is = n.is }

  in_names : (es : List Entry) (x : X) (e : Entry) (v : Version) → In e es → newest_of e.1 ≡ Some v → IsOf e.0 v x
      → some_names es x ≡ true
  in_names [] x e v is_in newest is = absurd is_in
  in_names (y ∷ ys) x e v (inl same) newest is =
      let here : names e x ≡ true =
      subst (λ (o : Option Version). names_by e.0 o x ≡ true) (sym newest) (names_it e.0 v x is) in
      either_true (names y x) (some_names ys x) (inl (subst (λ (z : Entry). names z x ≡ true) same here))
  in_names (y ∷ ys) x e v (inr later) newest is =
      either_true (names y x) (some_names ys x) (inr (in_names ys x e v later newest is))

  -- an entry's newest version is a put, and where that stands in this file, its record is one of these
  pub record Finds (xs : List X) (e : Entry) : Type 0 where
    pub version : Version
    pub newest : newest_of e.1 ≡ Some version
    pub put : version.gone ≡ false
    pub found : version.file.0 ≡ id → (x : X) × In x xs × IsOf e.0 version x × (version.size ≡ size x)

  -- an entry's own bytes
  entry_bytes : (xs : List X) (e : Entry) → AreUnlike mark xs → Finds xs e
      → sum_where size (names e) xs ≡ bytes_if id (newest_of e.1)
  entry_bytes xs e unlike f =
      subst (λ (o : Option Version). sum_where size (names_by e.0 o) xs ≡ bytes_if id o) (sym f.newest)
      (elim (cases_Bool (f.version.file.0 == id)) [ inl t ↦ here t | inr t ↦ elsewhere t ]) where
        here : (f.version.file.0 == id) ≡ true
            → sum_where size (names_by e.0 (Some f.version)) xs ≡ bytes_if id (Some f.version)
        here t =
            let file = eqb-true f.version.file.0 id t in
            let (x, is_in, is, same) = f.found file in
            where_one size mark (names_by e.0 (Some f.version)) xs x unlike is_in (names_it e.0 f.version x is)
            (λ y y_in picks. sym (named_by e.0 f.version y picks).mark_is ∙ is.mark_is)
            ∙ sym same ∙ ap (λ (b : Bool). cond b f.version.size 0) (sym (put_here id f.version f.put file))

        elsewhere : (f.version.file.0 == id) ≡ false
            → sum_where size (names_by e.0 (Some f.version)) xs ≡ bytes_if id (Some f.version)
        elsewhere t =
            let no_put : is_put_in id f.version ≡ false =
            false_from_ne_true (is_put_in id f.version) (λ put. true≢false
            (sym (both (not f.version.gone) (f.version.file.0 == id) put).1 ∙ t)) in
            where_none size (names_by e.0 (Some f.version)) xs (λ x x_in.
            false_from_ne_true (names_by e.0 (Some f.version) x) (λ is. true≢false
            (sym (put_here id f.version f.put (named_by e.0 f.version x is).file) ∙ no_put)))
            ∙ ap (λ (b : Bool). cond b f.version.size 0) (sym no_put)

  -- all of them together have the live bytes, where each has its own
  live_sum : (es : List Entry) (xs : List X) → IsDistinct bytes_eq (keys_of es)
      → ((e : Entry) → In e es → sum_where size (names e) xs ≡ bytes_if id (newest_of e.1))
      → live_of id es ≡ sum_where size (some_names es) xs
  live_sum [] xs once each = sym (where_none size (some_names []) xs (λ x is_in. refl))
  live_sum (e ∷ es) xs once each =
      let here = each e (inl refl) in
      let later = live_sum es xs (IsDistinct-tail bytes_eq e.0 (keys_of es) once) (λ y is_in. each y (inr is_in)) in
      let split = where_either size (names e) (some_names es) xs apart in
      ap (λ (n : ℕ). n + live_of id es) (sym here) ∙ ap (λ (n : ℕ). sum_where size (names e) xs + n) later ∙ sym split where
        apart : (x : X) → In x xs → names e x ≡ true → some_names es x ≡ true → ⊥
        apart x is_in first second =
            let (v, newest, one) = named_of e (newest_of e.1) x refl first in
            let two = named_in es x second in
            let differ =
            all_in (λ (k : List ℕ). bytes_eq e.0 k ≡ false) (keys_of es) two.entry.0
            (IsDistinct-head bytes_eq e.0 (keys_of es) once) (in_keys es two.entry two.is_in) in
            true≢false (sym (key_same e.0 two.entry.0 (sym one.key_is ∙ two.is.key_is)) ∙ differ)

  -- So they are the bytes of those that a test picks, where it picks just the records that are named.
  pub named_bytes : (keys : List Entry) (xs : List X) (test : X → Bool) → IsDistinct bytes_eq (keys_of keys)
      → AreUnlike mark xs → ((e : Entry) → In e keys → Finds xs e)
      → ((x : X) → In x xs → IsNamed keys x → test x ≡ true) → ((x : X) → In x xs → test x ≡ true → IsNamed keys x)
      → live_of id keys ≡ sum_where size test xs
  named_bytes keys xs test once unlike finds there back =
      live_sum keys xs once (λ e is_in. entry_bytes xs e unlike (finds e is_in))
      ∙ where_same size (some_names keys) test xs (λ x is_in.
      same_test (some_names keys x) (test x) (λ named. there x is_in (named_in keys x named)) (λ picked.
      let n = back x is_in picked in in_names keys x n.entry n.version n.is_in n.newest n.is))
