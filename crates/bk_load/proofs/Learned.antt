-- What the keydir knows after one record more.
use Rattle.std.proofs.Common.{◌≡◌, ◌==◌, ℕ, ◌+◌, ◌<◌, ◌≤◌, Bool, true, false, cond, max, nat_lt, List, [], ◌∷◌, ◌++◌, Option, Some, None, refl, sym, ap, subst, ◌∙◌, inl, inr, arith}
use Rattle.std.specs.List.{AllByRecursion}
use Rattle.std.specs.Str.{bytes_eq}
use Rattle.std.proofs.lemmas.Bool.{cases_lt, cases_eq}
use Rattle.std.proofs.lemmas.Bool.Decides.{nat_tests}
use Rattle.bk_base.specs.declared.limits.TheConstants.{LAST_SEQ}
use Rattle.bk_base.specs.declared.writes.Version.{Version}
use Rattle.bk_base.specs.declared.writes.Write.{Write}
use Rattle.bk_keydir.specs.declared.slots.Slot.{Slot}
use Rattle.bk_keydir.specs.Keydir.{Entry, IsNewer, IsNewerThan, Shown, keeps_newest, newest_of, put_over, versions_of, with_version}
use Rattle.bk_keydir.specs.Counts.{PutCounts, bytes_in, live_of}
use Rattle.bk_keydir.specs.Slots.{has_open, is_seen}
use Rattle.bk_load.specs.Learning.{AreFit, FitsVersion, Grows, IsLone, IsLoneEntry, Learns, greatest, if_of, newer, newest_in}
use Rattle.bk_store.proofs.Keys.{key_is, key_sym, newest_put}
use Rattle.bk_keydir.proofs.FoldLemmas.{none_open}

-- Of three versions the newest is found in either order of tests

pub lt_is : (a b : ℕ) → a < b → nat_lt a b ≡ true
lt_is a b h = grind (arith, nat_tests, h)

pub lt_not : (a b : ℕ) → b ≤ a → nat_lt a b ≡ false
lt_not a b h = grind (arith, nat_tests, h)

pub newer_none : (o : Option Version) → newer o None ≡ o
newer_none None = refl
newer_none (Some v) = refl

newer_yes : (v w : Version) → v.seq.0 < w.seq.0 → newer (Some v) (Some w) ≡ Some w
newer_yes v w h = ap (λ (b : Bool). cond b (Some w) (Some v)) (lt_is v.seq.0 w.seq.0 h)

newer_no : (v w : Version) → w.seq.0 ≤ v.seq.0 → newer (Some v) (Some w) ≡ Some v
newer_no v w h = ap (λ (b : Bool). cond b (Some w) (Some v)) (lt_not v.seq.0 w.seq.0 h)

three : (v w x : Version) → newer (newer (Some v) (Some w)) (Some x) ≡ newer (Some v) (newer (Some w) (Some x))
three v w x =
    elim (cases_lt v.seq.0 w.seq.0) [
      | inl vw ↦ elim (cases_lt w.seq.0 x.seq.0) [
        | inl wx ↦
            let vx : v.seq.0 < x.seq.0 = omega (arith, vw, wx) in
            ap (λ (o : Option Version). newer o (Some x)) (newer_yes v w vw) ∙ newer_yes w x wx
            ∙ sym (ap (newer (Some v)) (newer_yes w x wx) ∙ newer_yes v x vx)
        | inr xw ↦
            ap (λ (o : Option Version). newer o (Some x)) (newer_yes v w vw) ∙ newer_no w x xw
            ∙ sym (ap (newer (Some v)) (newer_no w x xw) ∙ newer_yes v w vw)
      ]
      | inr wv ↦ elim (cases_lt w.seq.0 x.seq.0) [
        | inl wx ↦
            ap (λ (o : Option Version). newer o (Some x)) (newer_no v w wv)
            ∙ sym (ap (newer (Some v)) (newer_yes w x wx))
        | inr xw ↦
            let xv : x.seq.0 ≤ v.seq.0 = omega (arith, wv, xw) in
            ap (λ (o : Option Version). newer o (Some x)) (newer_no v w wv) ∙ newer_no v x xv
            ∙ sym (ap (newer (Some v)) (newer_no w x xw) ∙ newer_no v w wv)
      ]
    ]

pub newer_assoc : (a b c : Option Version) → newer (newer a b) c ≡ newer a (newer b c)
newer_assoc None b c = refl
newer_assoc (Some v) None c = refl
newer_assoc (Some v) (Some w) None = newer_none (newer (Some v) (Some w))
newer_assoc (Some v) (Some w) (Some x) = three v w x

pub newest_in-append : (key : List ℕ) (ps qs : List (List ℕ × Version))
    → newest_in key (ps ++ qs) ≡ newer (newest_in key ps) (newest_in key qs)
newest_in-append key [] qs = refl
newest_in-append key (p ∷ ps) qs =
    ap (newer (if_of key p)) (newest_in-append key ps qs)
    ∙ sym (newer_assoc (if_of key p) (newest_in key ps) (newest_in key qs))

pub learns_none : (es : List Entry) → Learns [] es es
learns_none es key = sym (newer_none (newest_of (versions_of key es)))

pub learns_more : (ps qs : List (List ℕ × Version)) (es fs gs : List Entry) → Learns ps es fs → Learns qs fs gs
    → Learns (ps ++ qs) es gs
learns_more ps qs es fs gs a b key =
    b key ∙ ap (λ (o : Option Version). newer o (newest_in key qs)) (a key)
    ∙ newer_assoc (newest_of (versions_of key es)) (newest_in key ps) (newest_in key qs)
    ∙ ap (newer (newest_of (versions_of key es))) (sym (newest_in-append key ps qs))

-- No fold is open

none_sees : (slots : List (Option Slot)) (vs : List Version) (seq : ℕ) → has_open slots ≡ false → is_seen slots vs seq ≡ false
none_sees [] vs seq none = refl
none_sees (None ∷ slots) vs seq none = none_sees slots vs seq none
none_sees (Some s ∷ slots) vs seq none = absurd (cc none)

none_keeps : (slots : List (Option Slot)) (vs : List Version) → has_open slots ≡ false → keeps_newest slots vs ≡ false
none_keeps slots [] none = refl
none_keeps slots (v ∷ vs) none = none_sees slots (v ∷ vs) v.seq.0 none

-- The version was newer

if_newer : (v : Version) (b : Bool) (vs : List Version) → (b ≡ true → IsNewerThan v.seq.0 vs)
    → cond b (Some v) (newest_of vs) ≡ newer (newest_of vs) (newer (cond b (Some v) None) None)
if_newer v false vs newer_than = sym (newer_none (newest_of vs))
if_newer v true [] newer_than = refl
if_newer v true (w ∷ vs) newer_than = sym (newer_yes w v (newer_than refl))

pub learns_newer : (slots : List (Option Slot)) (key : List ℕ) (v : Version) (es : List Entry)
    → IsNewerThan v.seq.0 (versions_of key es) → Learns ((key, v) ∷ []) es (with_version slots key v es)
learns_newer slots key v es newer_than k =
    newest_put slots key v es k
    ∙ ap (λ (b : Bool). cond b (Some v) (newest_of (versions_of k es))) (key_sym key k)
    ∙ if_newer v (bytes_eq k key) (versions_of k es)
    (λ same. subst (λ (x : List ℕ). IsNewerThan v.seq.0 (versions_of x es)) (sym (key_is k key same)) newer_than)

-- It wasn't

if_older : (v : Version) (b : Bool) (vs : List Version) → (b ≡ true → IsNewerThan v.seq.0 vs → ⊥)
    → newest_of vs ≡ newer (newest_of vs) (newer (cond b (Some v) None) None)
if_older v false vs never = sym (newer_none (newest_of vs))
if_older v true [] never = absurd (never refl tt)
if_older v true (w ∷ vs) never =
    elim (cases_lt w.seq.0 v.seq.0) [ inl lt ↦ absurd (never refl lt) | inr ge ↦ sym (newer_no w v ge) ]

pub learns_older : (key : List ℕ) (v : Version) (es : List Entry) → (IsNewerThan v.seq.0 (versions_of key es) → ⊥)
    → Learns ((key, v) ∷ []) es es
learns_older key v es never k =
    if_older v (bytes_eq k key) (versions_of k es)
    (λ same than. never (subst (λ (x : List ℕ). IsNewerThan v.seq.0 (versions_of x es)) (key_is k key same) than))

pub is_newer_than : (seq : ℕ) (key : List ℕ) (d : Shown) → has_open d.slots ≡ false → IsNewerThan seq (versions_of key d.entries)
    → IsNewer seq key d
is_newer_than seq key d none than =
    record { newest = than; epochs = λ s is_open. absurd (none_open d.slots s none is_open) }

-- The bytes that are live

bytes_at_most : (other : ℕ) (v : Version) → bytes_in other v ≤ cond (other == v.file.0) v.size 0
bytes_at_most other v =
    elim (cases_eq other v.file.0) [
      | inl e ↦ grind (arith, nat_tests, e)
      | inr ne ↦ grind (arith, nat_tests, ne)
    ]

pub grows_put : (v : Version) (earlier gone : Option Version) (es fs : List Entry) → PutCounts v earlier gone es fs
    → Grows v.file.0 v.size es fs
grows_put v earlier dropped es fs counts other =
    let e = counts.live other in
    let most = bytes_at_most other v in
    omega (arith, e, most)

pub grows_none : (file size : ℕ) (es : List Entry) → Grows file size es es
grows_none file size es other = omega arith

pub grows_more : (file m n : ℕ) (es fs gs : List Entry) → Grows file m es fs → Grows file n fs gs → Grows file (m + n) es gs
grows_more file m n es fs gs a b other = go (other == file) (a other) (b other) where
  go : (here : Bool) → live_of other fs ≤ live_of other es + cond here m 0
      → live_of other gs ≤ live_of other fs + cond here n 0 → live_of other gs ≤ live_of other es + cond here (m + n) 0
  go true p q = omega (arith, p, q)
  go false p q = omega (arith, p, q)

-- Each key has one version

lone_more : (m n : ℕ) (key : List ℕ) (vs : List Version) → m ≤ n → IsLone m key vs → IsLone n key vs
lone_more m n key [] le lone = lone
lone_more m n key (v ∷ []) le lone = (lone.0, let p = lone.1 in omega (arith, p, le))
lone_more m n key (v ∷ w ∷ vs) le lone = lone

pub all_lone : (m n : ℕ) (es : List Entry) → m ≤ n → AllByRecursion (IsLoneEntry m) es → AllByRecursion (IsLoneEntry n) es
all_lone m n [] le all = all
all_lone m n (e ∷ es) le all = (lone_more m n e.0 e.1 le all.0, all_lone m n es le all.1)

lone_put : (slots : List (Option Slot)) (n : ℕ) (key : List ℕ) (v : Version) (vs : List Version) → has_open slots ≡ false
    → FitsVersion key v → v.seq.0 ≤ n → IsLone n key vs → IsLone n key (put_over slots v vs)
lone_put slots n key v [] none fits le lone = absurd (lone tt)
lone_put slots n key v (w ∷ x ∷ vs) none fits le lone = absurd (lone tt)
lone_put slots n key v (w ∷ []) none fits le lone =
    let P : Bool → Type 0 = λ b. IsLone n key (v ∷ cond b (w ∷ []) []) in
    subst P (sym (none_keeps slots (w ∷ []) none)) (fits, le)

pub lone_with : (slots : List (Option Slot)) (n : ℕ) (key : List ℕ) (v : Version) (es : List Entry) → has_open slots ≡ false
    → FitsVersion key v → v.seq.0 ≤ n → AllByRecursion (IsLoneEntry n) es
    → AllByRecursion (IsLoneEntry n) (with_version slots key v es)
lone_with slots n key v [] none fits le all = ((fits, le), tt)
lone_with slots n key v (e ∷ es) none fits le all =
    go (bytes_eq key e.0) refl (lone_with slots n key v es none fits le all.1) where
      go : (b : Bool) → bytes_eq key e.0 ≡ b → AllByRecursion (IsLoneEntry n) (with_version slots key v es)
          → AllByRecursion (IsLoneEntry n) (cond b ((e.0, put_over slots v e.1) ∷ es) (e ∷ with_version slots key v es))
      go true p later =
          let here : FitsVersion e.0 v = subst (λ (k : List ℕ). FitsVersion k v) (key_is key e.0 p) fits in
          (lone_put slots n e.0 v e.1 none here le all.0, all.1)
      go false p later = (all.0, later)

-- The two ways of `learn`

put_is : (old mid : Shown) (key : List ℕ) (v : Version) (s n : ℕ) (es : List Entry) → mid ≡ record old { spare = s; chain = n }
    → es ≡ with_version mid.slots key v mid.entries → es ≡ with_version old.slots key v old.entries
put_is old mid key v s n es same_but is = is ∙ ap (λ (d : Shown). with_version d.slots key v d.entries) same_but

pub learn_newer : (old mid : Shown) (key : List ℕ) (v : Version) (s n : ℕ) (es : List Entry)
    → mid ≡ record old { spare = s; chain = n } → es ≡ with_version mid.slots key v mid.entries → IsNewer v.seq.0 key old
    → Learns ((key, v) ∷ []) old.entries es
learn_newer old mid key v s n es same_but is newer_is =
    subst (Learns ((key, v) ∷ []) old.entries) (sym (put_is old mid key v s n es same_but is))
    (learns_newer old.slots key v old.entries newer_is.newest)

pub learn_older : (old : Shown) (key : List ℕ) (v : Version) → has_open old.slots ≡ false → (IsNewer v.seq.0 key old → ⊥)
    → Learns ((key, v) ∷ []) old.entries old.entries
learn_older old key v none never = learns_older key v old.entries (λ than. never (is_newer_than v.seq.0 key old none than))

last_within : (last seq : ℕ) → last ≤ LAST_SEQ → seq ≤ LAST_SEQ → max last seq ≤ LAST_SEQ
last_within last seq a b = omega (arith, a, b)

pub fit_newer : (old mid new : Shown) (last : ℕ) (key : List ℕ) (v : Version) (s n : ℕ) → mid ≡ record old { spare = s; chain = n }
    → new.entries ≡ with_version mid.slots key v mid.entries → has_open old.slots ≡ false → FitsVersion key v
    → AreFit (record { keys = old; last = last }) → AreFit (record { keys = new; last = max last v.seq.0 })
fit_newer old mid new last key v s n same_but is none fits fit = record {
  last = last_within last v.seq.0 fit.last fits.seq.1;
  entries = subst (AllByRecursion (IsLoneEntry (max last v.seq.0))) (sym (put_is old mid key v s n new.entries same_but is))
      (lone_with old.slots (max last v.seq.0) key v old.entries none fits (omega arith)
      (all_lone last (max last v.seq.0) old.entries (omega arith) fit.entries));
}

pub fit_older : (old : Shown) (last : ℕ) (key : List ℕ) (v : Version) → FitsVersion key v
    → AreFit (record { keys = old; last = last }) → AreFit (record { keys = old; last = max last v.seq.0 })
fit_older old last key v fits fit = record {
  last = last_within last v.seq.0 fit.last fits.seq.1;
  entries = all_lone last (max last v.seq.0) old.entries (omega arith) fit.entries;
}

-- The greatest seq

pub greatest_more : (n : ℕ) (vs ws : List Write) → greatest n (vs ++ ws) ≡ greatest (greatest n vs) ws
greatest_more n [] ws = refl
greatest_more n (v ∷ vs) ws = greatest_more (max n v.seq.0) vs ws
