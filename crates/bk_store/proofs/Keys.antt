-- The versions of a key in the keydir's list, as a put changes it.
use Rattle.std.proofs.Common.{◌≡◌, ◌⊎◌, ℕ, Bool, true, false, cond, List, [], ◌∷◌, Option, Some, None, refl, sym, ap, subst, ◌∙◌, inl, inr}
use Rattle.std.specs.Str.{bytes_eq}
use Rattle.std.proofs.lemmas.Bool.{cases_Bool, true≢false}
use Rattle.std.proofs.lemmas.Slice.Eq.{bytes_eq-Decides}
use Rattle.bk_base.specs.declared.writes.Version.{Version}
use Rattle.bk_image.specs.Readings.{In}
use Rattle.bk_keydir.specs.declared.slots.Slot.{Slot}
use Rattle.bk_keydir.specs.Keydir.{Entry, keeps_newest, newest_of, older_of, put_over, versions_of, with_version}

pub key_is : (a b : List ℕ) → bytes_eq a b ≡ true → a ≡ b
key_is a b same = (bytes_eq-Decides a b).0 same

pub key_refl : (a : List ℕ) → bytes_eq a a ≡ true
key_refl a = (bytes_eq-Decides a a).1 refl

pub key_same : (a b : List ℕ) → a ≡ b → bytes_eq a b ≡ true
key_same a b is = (bytes_eq-Decides a b).1 is

pub key_sym : (a b : List ℕ) → bytes_eq a b ≡ bytes_eq b a
key_sym a b =
    elim (cases_Bool (bytes_eq a b)) [
      | inl p ↦ p ∙ sym (key_same b a (sym (key_is a b p)))
      | inr p ↦
          elim (cases_Bool (bytes_eq b a)) [
            | inl q ↦ absurd (true≢false (sym (key_same a b (sym (key_is b a q))) ∙ p))
            | inr q ↦ p ∙ sym q
          ]
    ]

-- a version of a key stands in an entry of that key
pub in_versions_of : (key : List ℕ) (v : Version) (es : List Entry) → In v (versions_of key es)
    → (e : Entry) × In e es × (e.0 ≡ key) × In v e.1
in_versions_of key v [] is_in = absurd is_in
in_versions_of key v (e ∷ es) is_in = go (bytes_eq key e.0) refl is_in (in_versions_of key v es) where
  go : (b : Bool) → bytes_eq key e.0 ≡ b → In v (cond b e.1 (versions_of key es))
      → (In v (versions_of key es) → (f : Entry) × In f es × (f.0 ≡ key) × In v f.1)
      → (f : Entry) × In f (e ∷ es) × (f.0 ≡ key) × In v f.1
  go true p here others = (e, inl refl, sym (key_is key e.0 p), here)
  go false p later others = let (f, there, is, at) = others later in (f, inr there, is, at)

pub in_newest : (v : Version) (vs : List Version) → newest_of vs ≡ Some v → In v vs
in_newest v [] is = absurd (cc is)
in_newest v (w ∷ vs) is = let same : w ≡ v = cc is in inl (sym same)

pub newest_in : (key : List ℕ) (v : Version) (es : List Entry) → newest_of (versions_of key es) ≡ Some v
    → (e : Entry) × In e es × (e.0 ≡ key) × In v e.1
newest_in key v es is = in_versions_of key v es (in_newest v (versions_of key es) is)

-- the newest version of each key, after a put
pub newest_put : (slots : List (Option Slot)) (k : List ℕ) (v : Version) (es : List Entry) (key : List ℕ)
    → newest_of (versions_of key (with_version slots k v es)) ≡ cond (bytes_eq k key) (Some v) (newest_of (versions_of key es))
newest_put slots k v [] key = go (bytes_eq key k) (key_sym key k) where
  go : (b : Bool) → b ≡ bytes_eq k key → newest_of (cond b (v ∷ []) []) ≡ cond (bytes_eq k key) (Some v) None
  go true p = ap (λ (c : Bool). cond c (Some v) None) p
  go false p = ap (λ (c : Bool). cond c (Some v) None) p
newest_put slots k v (e ∷ es) key =
    elim (cases_Bool (bytes_eq k e.0)) [
      | inl p ↦ rw p (here p)
      | inr p ↦ rw p (later p (newest_put slots k v es key))
    ] where
      here : bytes_eq k e.0 ≡ true → newest_of (versions_of key ((e.0, put_over slots v e.1) ∷ es))
          ≡ cond (bytes_eq k key) (Some v) (newest_of (versions_of key (e ∷ es)))
      here p =
          let same : bytes_eq key e.0 ≡ bytes_eq k key = ap (bytes_eq key) (sym (key_is k e.0 p)) ∙ key_sym key k in
          elim (cases_Bool (bytes_eq k key)) [
            | inl q ↦ rw (same, q) refl
            | inr q ↦ rw (same, q) refl
          ]

      later : bytes_eq k e.0 ≡ false
          → newest_of (versions_of key (with_version slots k v es)) ≡ cond (bytes_eq k key) (Some v) (newest_of (versions_of key es))
          → newest_of (versions_of key (e ∷ with_version slots k v es))
          ≡ cond (bytes_eq k key) (Some v) (newest_of (versions_of key (e ∷ es)))
      later p others =
          elim (cases_Bool (bytes_eq key e.0)) [
            | inl q ↦
                let other : bytes_eq k key ≡ false = ap (bytes_eq k) (key_is key e.0 q) ∙ p in
                rw (q, other) refl
            | inr q ↦ rw q others
          ]

in_older : (v : Version) (b : Bool) (vs : List Version) → In v (cond b vs (older_of vs)) → In v vs
in_older v true vs is_in = is_in
in_older v false [] is_in = absurd is_in
in_older v false (w ∷ vs) is_in = inr is_in

-- Of the versions after a put each is the new one, or was there before.
pub in_put : (slots : List (Option Slot)) (k : List ℕ) (v : Version) (es : List Entry) (e : Entry) (x : Version)
    → In e (with_version slots k v es) → In x e.1
    → ((e.0 ≡ k) × (x ≡ v)) ⊎ ((f : Entry) × In f es × (e.0 ≡ f.0) × In x f.1)
in_put slots k v [] e x (inl is) at = go (ap (λ (f : Entry). f.0) is) (subst_in is at) where
  subst_in : e ≡ (k, v ∷ []) → In x e.1 → In x (v ∷ [])
  subst_in p q = subst (λ (f : Entry). In x f.1) p q

  go : e.0 ≡ k → In x (v ∷ []) → ((e.0 ≡ k) × (x ≡ v)) ⊎ ((f : Entry) × In f [] × (e.0 ≡ f.0) × In x f.1)
  go key (inl new) = inl (key, new)
  go key (inr none) = absurd none
in_put slots k v [] e x (inr none) at = absurd none
in_put slots k v (d ∷ es) e x is_in at = go (bytes_eq k d.0) refl is_in (λ later. in_put slots k v es e x later at) where
  put : bytes_eq k d.0 ≡ true → e.0 ≡ d.0 → In x (put_over slots v d.1)
      → ((e.0 ≡ k) × (x ≡ v)) ⊎ ((f : Entry) × In f (d ∷ es) × (e.0 ≡ f.0) × In x f.1)
  put p key (inl new) = inl (key ∙ sym (key_is k d.0 p), new)
  put p key (inr old) = inr (d, inl refl, key, in_older x (keeps_newest slots d.1) d.1 old)

  go : (b : Bool) → bytes_eq k d.0 ≡ b → In e (cond b ((d.0, put_over slots v d.1) ∷ es) (d ∷ with_version slots k v es))
      → (In e (with_version slots k v es) → ((e.0 ≡ k) × (x ≡ v)) ⊎ ((f : Entry) × In f es × (e.0 ≡ f.0) × In x f.1))
      → ((e.0 ≡ k) × (x ≡ v)) ⊎ ((f : Entry) × In f (d ∷ es) × (e.0 ≡ f.0) × In x f.1)
  go true p (inl is) others = put p (ap (λ (f : Entry). f.0) is) (subst (λ (f : Entry). In x f.1) is at)
  go true p (inr later) others = inr (e, inr later, refl, at)
  go false p (inl is) others = inr (e, inl is, refl, at)
  go false p (inr later) others =
      elim (others later) [
        | inl new ↦ inl new
        | inr old ↦ inr (old.0, inr old.1, old.2, old.3)
      ]
