-- What a fold lists, and which keys it hasn't listed yet.
use Rattle.std.proofs.Common.{◌≡◌, ℕ, zero, suc, ◌<◌, ◌≤◌, Bool, true, false, cond, List, [], ◌∷◌, ◌++◌, length, take, drop, Option, Some, None, refl, sym, ap, subst, ◌∙◌, arith, inl, inr}
use Rattle.std.specs.Prelude.{◌||◌}
use Rattle.std.specs.List.{AllByRecursion, IsDistinct}
use Rattle.std.specs.Map.{keys_of}
use Rattle.std.specs.Str.{bytes_eq}
use Rattle.std.proofs.lemmas.Bool.{cases_Bool, true≢false}
use Rattle.std.proofs.lemmas.List.{append-nil, append_assoc, map-append, take-append-drop}
use Rattle.std.proofs.lemmas.List.Folds.{list_any-append}
use Rattle.std.proofs.lemmas.Map.Keys.{IsDistinct-head, IsDistinct-tail}
use Rattle.bk_base.specs.declared.writes.Version.{Version}
use Rattle.bk_laws.specs.History.{is_listed as is_among}
use Rattle.bk_keydir.specs.declared.slots.Slot.{Slot}
use Rattle.bk_keydir.specs.Folds.{is_listed, listing, pair_if}
use Rattle.bk_keydir.specs.Keydir.{Entry, key_at, versions_at, versions_of}
use Rattle.bk_keydir.specs.Slots.{at_epoch}
use Rattle.bk_store.specs.Folds.{keys_in}
use Rattle.bk_store.specs.Loans.{is_live}
use Rattle.bk_store.proofs.Keys.{key_is, key_refl, key_same, key_sym}
use Rattle.std.proofs.Math.Bool.{or-true}

-- ---- keys that stand once

pub key_within : (n : ℕ) (es : List Entry) (key : List ℕ) → key_at n es ≡ Some key → n < length es
key_within n [] key is = absurd (cc is)
key_within zero (e ∷ es) key is = omega arith
key_within (suc n) (e ∷ es) key is = omega (arith, key_within n es key is)

-- the first key differs from each later one
apart_at : (k : List ℕ) (n : ℕ) (es : List Entry) (key : List ℕ) → AllByRecursion (λ (y : List ℕ). bytes_eq k y ≡ false) (keys_of es)
    → key_at n es ≡ Some key → bytes_eq k key ≡ false
apart_at k n [] key all is = absurd (cc is)
apart_at k zero (e ∷ es) key all is = let same : e.0 ≡ key = cc is in ap (bytes_eq k) (sym same) ∙ all.0
apart_at k (suc n) (e ∷ es) key all is = apart_at k n es key all.1 is

head_apart : (n : ℕ) (e : Entry) (es : List Entry) (key : List ℕ) → IsDistinct bytes_eq (keys_of (e ∷ es)) → key_at n es ≡ Some key
    → bytes_eq key e.0 ≡ false
head_apart n e es key apart is =
    key_sym key e.0 ∙ apart_at e.0 n es key (IsDistinct-head bytes_eq e.0 (keys_of es) apart) is

-- so the versions of the key at a position are those at that position
pub versions_there : (n : ℕ) (es : List Entry) (key : List ℕ) → IsDistinct bytes_eq (keys_of es) → key_at n es ≡ Some key
    → versions_of key es ≡ versions_at n es
versions_there n [] key apart is = absurd (cc is)
versions_there zero (e ∷ es) key apart is =
    let same : e.0 ≡ key = cc is in
    rw (key_same key e.0 (sym same)) refl
versions_there (suc n) (e ∷ es) key apart is =
    rw (head_apart n e es key apart is) (versions_there n es key (IsDistinct-tail bytes_eq e.0 (keys_of es) apart) is)

-- ---- what was listed

keys_in-append : (ps qs : List (List ℕ × Version)) → keys_in (ps ++ qs) ≡ keys_in ps ++ keys_in qs
keys_in-append ps qs = map-append (λ (p : List ℕ × Version). p.0) ps qs

among-append : (key : List ℕ) (ps qs : List (List ℕ × Version))
    → is_among key (keys_in (ps ++ qs)) ≡ (is_among key (keys_in ps) || is_among key (keys_in qs))
among-append key ps qs =
    ap (is_among key) (keys_in-append ps qs) ∙ list_any-append (bytes_eq key) (keys_in ps) (keys_in qs)

other_pair : (key k : List ℕ) (b : Bool) (o : Option Version) → bytes_eq key k ≡ false → is_among key (keys_in (pair_if b k o)) ≡ false
other_pair key k b None other = refl
other_pair key k true (Some v) other = rw other refl
other_pair key k false (Some v) other = refl

-- a key that stands behind the cursor isn't among those that were listed
pub not_among : (ttl : ℕ) (s : Slot) (cursor n : ℕ) (es : List Entry) (key : List ℕ) → IsDistinct bytes_eq (keys_of es)
    → cursor ≤ n → key_at n es ≡ Some key → is_among key (keys_in (listing ttl s (take cursor es))) ≡ false
not_among ttl s zero n es key apart from is = refl
not_among ttl s (suc cursor) n [] key apart from is = absurd (cc is)
not_among ttl s (suc cursor) zero (e ∷ es) key apart from is = absurd (omega arith)
not_among ttl s (suc cursor) (suc n) (e ∷ es) key apart from is =
    let seen = at_epoch s.epoch.0 e.1 in
    let here = other_pair key e.0 (is_listed ttl s seen) seen (head_apart n e es key apart is) in
    let later = not_among ttl s cursor n es key (IsDistinct-tail bytes_eq e.0 (keys_of es) apart) (omega arith) is in
    among-append key (pair_if (is_listed ttl s seen) e.0 seen) (listing ttl s (take cursor es)) ∙ rw here later

listing-append : (ttl : ℕ) (s : Slot) (es fs : List Entry) → listing ttl s (es ++ fs) ≡ listing ttl s es ++ listing ttl s fs
listing-append ttl s [] fs = refl
listing-append ttl s (e ∷ es) fs =
    let seen = at_epoch s.epoch.0 e.1 in
    ap (λ (ps : List (List ℕ × Version)). pair_if (is_listed ttl s seen) e.0 seen ++ ps) (listing-append ttl s es fs)
    ∙ sym (append_assoc (pair_if (is_listed ttl s seen) e.0 seen) (listing ttl s es) (listing ttl s fs))

listed_pair : (ttl : ℕ) (s : Slot) (key : List ℕ) (o : Option Version) → is_listed ttl s o ≡ true
    → is_among key (keys_in (pair_if (is_listed ttl s o) key o)) ≡ true
listed_pair ttl s key None is = absurd (true≢false (sym is))
listed_pair ttl s key (Some v) is = rw (is, key_refl key) refl

-- a key of which a live put is seen is in the listing
pub in_listing : (ttl : ℕ) (s : Slot) (es : List Entry) (key : List ℕ)
    → is_listed ttl s (at_epoch s.epoch.0 (versions_of key es)) ≡ true → is_among key (keys_in (listing ttl s es)) ≡ true
in_listing ttl s [] key is = absurd (true≢false (sym is))
in_listing ttl s (e ∷ es) key is =
    let seen = at_epoch s.epoch.0 e.1 in
    among-append key (pair_if (is_listed ttl s seen) e.0 seen) (listing ttl s es)
    ∙ go (bytes_eq key e.0) refl is (in_listing ttl s es key) where
      go : (b : Bool) → bytes_eq key e.0 ≡ b → is_listed ttl s (at_epoch s.epoch.0 (cond b e.1 (versions_of key es))) ≡ true
          → (is_listed ttl s (at_epoch s.epoch.0 (versions_of key es)) ≡ true → is_among key (keys_in (listing ttl s es)) ≡ true)
          → (is_among key (keys_in (pair_if (is_listed ttl s (at_epoch s.epoch.0 e.1)) e.0 (at_epoch s.epoch.0 e.1)))
          || is_among key (keys_in (listing ttl s es))) ≡ true
      go true p is others =
          let same : key ≡ e.0 = key_is key e.0 p in
          let here : is_among key (keys_in (pair_if (is_listed ttl s (at_epoch s.epoch.0 e.1)) e.0 (at_epoch s.epoch.0 e.1))) ≡ true =
          subst (λ (k : List ℕ). is_among k (keys_in (pair_if (is_listed ttl s (at_epoch s.epoch.0 e.1)) e.0 (at_epoch s.epoch.0 e.1))) ≡ true)
          (sym same) (listed_pair ttl s e.0 (at_epoch s.epoch.0 e.1) is) in
          rw here refl
      go false p is others =
          rw (others is) (or-true (is_among key (keys_in (pair_if (is_listed ttl s (at_epoch s.epoch.0 e.1)) e.0 (at_epoch s.epoch.0 e.1)))))

-- where nothing is left, each such key was listed
pub all_among : (ttl : ℕ) (s : Slot) (cursor : ℕ) (es : List Entry) (key : List ℕ) → listing ttl s (drop cursor es) ≡ []
    → is_among key (keys_in (listing ttl s (take cursor es))) ≡ false
    → is_listed ttl s (at_epoch s.epoch.0 (versions_of key es)) ≡ false
all_among ttl s cursor es key none not_yet =
    elim (cases_Bool (is_listed ttl s (at_epoch s.epoch.0 (versions_of key es)))) [
      | inl p ↦
          let whole : listing ttl s es ≡ listing ttl s (take cursor es) =
          ap (listing ttl s) (sym (take-append-drop cursor es)) ∙ listing-append ttl s (take cursor es) (drop cursor es)
          ∙ ap (λ (ps : List (List ℕ × Version)). listing ttl s (take cursor es) ++ ps) none
          ∙ append-nil (listing ttl s (take cursor es)) in
          absurd (true≢false (sym (in_listing ttl s es key p)
          ∙ ap (λ (ps : List (List ℕ × Version)). is_among key (keys_in ps)) whole ∙ not_yet))
      | inr p ↦ p
    ]

-- what a fold lists is what is live at its moment
pub listed_is_live : (ttl : ℕ) (s : Slot) (o : Option Version) → is_listed ttl s o ≡ is_live ttl s.now.0 o
listed_is_live ttl s None = refl
listed_is_live ttl s (Some v) = refl
