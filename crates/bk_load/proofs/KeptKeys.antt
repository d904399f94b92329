-- The keydir without the keys that are gone: one version of each key, which is a put.
use Rattle.std.proofs.Common.{◌≡◌, ℕ, ◌+◌, ◌≤◌, Bool, true, false, not, cond, List, [], ◌∷◌, length, Some, None, refl, sym, ap, subst, ◌∙◌, inl, inr, arith}
use Rattle.std.specs.List.{AllByRecursion, IsDistinct, filter}
use Rattle.std.specs.Map.{keys_of}
use Rattle.std.specs.Str.{bytes_eq}
use Rattle.std.proofs.lemmas.Map.Made.{IsDistinct-keys_filter}
use Rattle.bk_base.specs.declared.limits.TheConstants.{RECORD_HEADER}
use Rattle.bk_base.specs.declared.writes.Version.{Version}
use Rattle.bk_image.specs.Readings.{In}
use Rattle.bk_keydir.specs.Counts.{bytes_if, bytes_in, is_put_in, live_of, one_in, refs_of}
use Rattle.bk_keydir.specs.Keydir.{Entry, is_lone_gone, newest_of, versions_of, without_gone}
use Rattle.bk_load.specs.Learning.{FitsVersion, IsLone, IsLoneEntry}
use Rattle.bk_load.specs.Loads.{AreLone, put_if}
use Rattle.bk_store.proofs.Keys.{key_is, key_refl, key_sym}

-- a key that isn't among them has no version
absent_kept : (key : List ℕ) (es : List Entry) → AllByRecursion (λ k. bytes_eq key k ≡ false) (keys_of es)
    → versions_of key (without_gone es) ≡ []
absent_kept key [] others = refl
absent_kept key (e ∷ es) others = go (is_lone_gone e.1) (absent_kept key es others.1) where
  go : (b : Bool) → versions_of key (without_gone es) ≡ []
      → versions_of key (cond (not b) (e ∷ without_gone es) (without_gone es)) ≡ []
  go true later = later
  go false later = rw others.0 later

others_are : (a b : List ℕ) (ks : List (List ℕ)) → a ≡ b → AllByRecursion (λ k. bytes_eq b k ≡ false) ks
    → AllByRecursion (λ k. bytes_eq a k ≡ false) ks
others_are a b ks is others = subst (λ (x : List ℕ). AllByRecursion (λ k. bytes_eq x k ≡ false) ks) (sym is) others

-- of each key its newest version, where it is a put
pub kept_newest : (n : ℕ) (es : List Entry) → IsDistinct bytes_eq (keys_of es) → AllByRecursion (IsLoneEntry n) es
    → (key : List ℕ) → newest_of (versions_of key (without_gone es)) ≡ put_if (newest_of (versions_of key es))
unfolding IsDistinct
kept_newest n [] once lone key = refl
kept_newest n ((k, []) ∷ es) once lone key = absurd (lone.0 tt)
kept_newest n ((k, v ∷ w ∷ vs) ∷ es) once lone key = absurd (lone.0 tt)
kept_newest n ((k, v ∷ []) ∷ es) once lone key =
    go v.gone (bytes_eq key k) refl refl (kept_newest n es once.1 lone.1 key) where
      go : (g b : Bool) → v.gone ≡ g → bytes_eq key k ≡ b
          → newest_of (versions_of key (without_gone es)) ≡ put_if (newest_of (versions_of key es))
          → newest_of (versions_of key (cond (not g) ((k, v ∷ []) ∷ without_gone es) (without_gone es)))
          ≡ put_if (newest_of (cond b (v ∷ []) (versions_of key es)))
      go true true gone is later =
          ap newest_of (absent_kept key es (others_are key k (keys_of es) (key_is key k is) once.0))
          ∙ sym (ap (λ (g : Bool). cond g None (Some v)) gone)
      go true false gone is later = later
      go false true gone is later =
          ap (λ (b : Bool). newest_of (cond b (v ∷ []) (versions_of key (without_gone es)))) is
          ∙ sym (ap (λ (g : Bool). cond g None (Some v)) gone)
      go false false gone is later =
          ap (λ (b : Bool). newest_of (cond b (v ∷ []) (versions_of key (without_gone es)))) is ∙ later

-- ---- one version of each key

all_kept : {X : Type 0} (P : X → Type 0) (p : X → Bool) (xs : List X) → AllByRecursion P xs → AllByRecursion P (filter p xs)
all_kept P p [] all = tt
all_kept P p (x ∷ xs) all = go (p x) (all_kept P p xs all.1) where
  go : (b : Bool) → AllByRecursion P (filter p xs) → AllByRecursion P (cond b (x ∷ filter p xs) (filter p xs))
  go true later = (all.0, later)
  go false later = later

pub all_in : {X : Type 0} (P : X → Type 0) (xs : List X) (x : X) → AllByRecursion P xs → In x xs → P x
all_in P [] x all is_in = absurd is_in
all_in P (y ∷ ys) x all (inl is) = subst P (sym is) all.0
all_in P (y ∷ ys) x all (inr later) = all_in P ys x all.1 later

-- each kept key has one version
pub kept_each : (n : ℕ) (es : List Entry) → AllByRecursion (IsLoneEntry n) es → AllByRecursion (IsLoneEntry n) (without_gone es)
kept_each n es lone = all_kept (IsLoneEntry n) (λ (x : Entry). not (is_lone_gone x.1)) es lone

differs : (k : List ℕ) (es : List Entry) (e : Entry) → AllByRecursion (λ x. bytes_eq k x ≡ false) (keys_of es) → In e es
    → bytes_eq k e.0 ≡ false
differs k [] e others is_in = absurd is_in
differs k (x ∷ xs) e others (inl is) = subst (λ (y : Entry). bytes_eq k y.0 ≡ false) (sym is) others.0
differs k (x ∷ xs) e others (inr later) = differs k xs e others.1 later

first_of : (es : List Entry) (e : Entry) → IsDistinct bytes_eq (keys_of es) → In e es → versions_of e.0 es ≡ e.1
unfolding IsDistinct
first_of [] e once is_in = absurd is_in
first_of (x ∷ xs) e once (inl is) =
    subst (λ (y : Entry). versions_of y.0 (x ∷ xs) ≡ y.1) (sym is)
    (ap (λ (b : Bool). cond b x.1 (versions_of x.0 xs)) (key_refl x.0))
first_of (x ∷ xs) e once (inr later) =
    ap (λ (b : Bool). cond b x.1 (versions_of e.0 xs)) (key_sym e.0 x.0 ∙ differs x.0 xs e once.0 later)
    ∙ first_of xs e once.1 later

lone_newest : (n : ℕ) (key : List ℕ) (vs : List Version) (v : Version) → IsLone n key vs → In v vs → newest_of vs ≡ Some v
lone_newest n key [] v lone is_in = absurd is_in
lone_newest n key (w ∷ x ∷ vs) v lone is_in = absurd (lone tt)
lone_newest n key (w ∷ []) v lone (inl is) = ap Some (sym is)
lone_newest n key (w ∷ []) v lone (inr later) = absurd later

pub kept_lone : (n : ℕ) (es : List Entry) → IsDistinct bytes_eq (keys_of es) → AllByRecursion (IsLoneEntry n) es
    → AreLone (without_gone es)
kept_lone n es once lone e v is_in there =
    let kept_once : IsDistinct bytes_eq (keys_of (without_gone es)) =
    IsDistinct-keys_filter bytes_eq (λ (x : Entry). not (is_lone_gone x.1)) es once in
    let kept : AllByRecursion (IsLoneEntry n) (without_gone es) =
    all_kept (IsLoneEntry n) (λ (x : Entry). not (is_lone_gone x.1)) es lone in
    ap newest_of (first_of (without_gone es) e kept_once is_in)
    ∙ lone_newest n e.0 e.1 v (all_in (IsLoneEntry n) (without_gone es) e kept is_in) there

-- the key has one version, a put that was read
pub record HasPut (n : ℕ) (e : Entry) : Type 0 where
  pub version : Version
  pub alone : e.1 ≡ version ∷ []
  pub put : version.gone ≡ false
  pub fits : FitsVersion e.0 version
  pub read : version.seq.0 ≤ n

lone_put : (n : ℕ) (e : Entry) → IsLoneEntry n e → is_lone_gone e.1 ≡ false → HasPut n e
lone_put n (key, []) lone put = absurd (lone tt)
lone_put n (key, v ∷ w ∷ vs) lone put = absurd (lone tt)
lone_put n (key, v ∷ []) lone put = record { version = v; alone = refl; put = put; fits = lone.0; read = lone.1 }

-- a key that is kept was there, and isn't gone
pub kept_in : (es : List Entry) (e : Entry) → In e (without_gone es) → In e es × (is_lone_gone e.1 ≡ false)
kept_in [] e is_in = absurd is_in
kept_in (x ∷ xs) e is_in = go (is_lone_gone x.1) refl is_in (kept_in xs e) where
  behind : In e xs × (is_lone_gone e.1 ≡ false) → In e (x ∷ xs) × (is_lone_gone e.1 ≡ false)
  behind (there, put) = (inr there, put)

  go : (b : Bool) → is_lone_gone x.1 ≡ b → In e (cond (not b) (x ∷ without_gone xs) (without_gone xs))
      → (In e (without_gone xs) → In e xs × (is_lone_gone e.1 ≡ false)) → In e (x ∷ xs) × (is_lone_gone e.1 ≡ false)
  go true gone later others = behind (others later)
  go false put (inl is) others = (inl is, ap (λ (y : Entry). is_lone_gone y.1) is ∙ put)
  go false put (inr later) others = behind (others later)

pub kept_put : (n : ℕ) (es : List Entry) → AllByRecursion (IsLoneEntry n) es → (e : Entry) → In e (without_gone es) → HasPut n e
kept_put n es lone e is_in =
    let (there, put) = kept_in es e is_in in
    lone_put n e (all_in (IsLoneEntry n) es e lone there) put

-- ---- counts

pub live_kept : (file : ℕ) (es : List Entry) → live_of file (without_gone es) ≤ live_of file es
live_kept file [] = omega arith
live_kept file (e ∷ es) = go (is_lone_gone e.1) (live_kept file es) where
  go : (b : Bool) → live_of file (without_gone es) ≤ live_of file es
      → live_of file (cond (not b) (e ∷ without_gone es) (without_gone es)) ≤ bytes_if file (newest_of e.1) + live_of file es
  go true later = omega (arith, later)
  go false later = omega (arith, later)

one_within : (file : ℕ) (key : List ℕ) (v : Version) → RECORD_HEADER + length key ≤ v.size → one_in file v ≤ bytes_in file v
one_within file key v long = go (is_put_in file v) where
  go : (b : Bool) → cond b 1 0 ≤ cond b v.size 0
  go true = omega (arith, long)
  go false = omega arith

refs_live : (n file : ℕ) (es : List Entry) → AllByRecursion (IsLoneEntry n) es → refs_of file es ≤ live_of file es
refs_live n file [] lone = omega arith
refs_live n file ((k, []) ∷ es) lone = absurd (lone.0 tt)
refs_live n file ((k, v ∷ w ∷ vs) ∷ es) lone = absurd (lone.0 tt)
refs_live n file ((k, v ∷ []) ∷ es) lone =
    let here = one_within file k v lone.0.0.long in
    let later = refs_live n file es lone.1 in
    omega (arith, here, later)

pub kept_refs : (n file : ℕ) (es : List Entry) → AllByRecursion (IsLoneEntry n) es
    → refs_of file (without_gone es) ≤ live_of file (without_gone es)
kept_refs n file es lone =
    refs_live n file (without_gone es) (all_kept (IsLoneEntry n) (λ (x : Entry). not (is_lone_gone x.1)) es lone)

one_at_most : (file : ℕ) (v : Version) → one_in file v ≤ 1
one_at_most file v = go (is_put_in file v) where
  go : (b : Bool) → cond b 1 0 ≤ 1
  go true = omega arith
  go false = omega arith

-- there are no more references than keys
refs_few : (n file : ℕ) (es : List Entry) → AllByRecursion (IsLoneEntry n) es → refs_of file es ≤ length es
refs_few n file [] lone = omega arith
refs_few n file ((k, []) ∷ es) lone = absurd (lone.0 tt)
refs_few n file ((k, v ∷ w ∷ vs) ∷ es) lone = absurd (lone.0 tt)
refs_few n file ((k, v ∷ []) ∷ es) lone =
    let here = one_at_most file v in
    let later = refs_few n file es lone.1 in
    omega (arith, here, later)

few_kept : (es : List Entry) → length (without_gone es) ≤ length es
few_kept [] = omega arith
few_kept (e ∷ es) = go (is_lone_gone e.1) (few_kept es) where
  go : (b : Bool) → length (without_gone es) ≤ length es
      → length (cond (not b) (e ∷ without_gone es) (without_gone es)) ≤ length (e ∷ es)
  go true later = omega (arith, later)
  go false later = omega (arith, later)

pub kept_few : (n file : ℕ) (es : List Entry) → AllByRecursion (IsLoneEntry n) es → refs_of file (without_gone es) ≤ length es
kept_few n file es lone =
    let refs = refs_few n file (without_gone es) (kept_each n es lone) in
    let few = few_kept es in
    omega (arith, refs, few)
