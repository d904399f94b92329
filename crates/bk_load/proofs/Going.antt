-- How a disk goes on over the calls of recovery.
use Rattle.std.proofs.Common.{◌≡◌, ◌⊎◌, ℕ, ◌<◌, Bool, true, false, not, cond, List, [], ◌∷◌, ◌++◌, length, get_or, map, Option, Some, None, refl, sym, ap, subst, ◌∙◌, inl, inr, arith}
use Rattle.std.specs.Option.{is_some, option_map}
use Rattle.std.specs.Prelude.{IsSomeAnd, sum_by}
use Rattle.std.proofs.lemmas.List.Sums.{sum_by-append}
use Rattle.std.proofs.lemmas.Bool.{cases_Bool, cases_lt}
use Rattle.std.proofs.lemmas.List.{get_or_append_left, get_or_default}
use Rattle.bk_base.specs.declared.names.Name.{Name}
use Rattle.bk_disk.specs.declared.disks.Listed.{Listed}
use Rattle.bk_disk.specs.Names.{same}
use Rattle.bk_disk.specs.Told.{Front, Image, IsOnce, IsOurs, IsWell, Table, Told, asked_of, at, bytes_of, changed, clock, is_within, names, renamed}
use Rattle.bk_disk.specs.Calls.{Passes, Removed, Renamed, Synced, all_synced, viewed}
use Rattle.bk_disk.specs.Crashes.{AtEach, IsSynced, MayLeave, front_of, fronts_at}
use Rattle.bk_disk.proofs.Leaves.{synced-removed, synced-renamed, whole_fronts}
use Rattle.bk_disk.proofs.Moments.{goes_on, later, started, synced_leaves}
use Rattle.bk_disk.proofs.Names.{same_eq}
use Rattle.bk_disk.proofs.Files.{there_in_both}
use Rattle.bk_disk.proofs.Tables.{at-changed, at-changed_other, at-fewer, at-renamed, at-renamed_from, at-renamed_other, at-without, at-without_other, renamed-absent}
use Rattle.bk_image.specs.Readings.{Reading, main, main_temp}
use Rattle.bk_load.specs.Tidying.{Goes, NeedsScan, NoneLent, Tidied}
use Rattle.bk_load.specs.Steps.{AsksOnly, HasTakenName, IsSyncedFile, LacksOnly, MayGo, MayTakeName, SyncsToo}
use Rattle.bk_load.proofs.Tidied.{apart_kinds, needs_before, takes_tidied, tidied_refl, tidied_trans}

-- what a crash may leave came from this reading
abbrev pub LeavesTidied : Reading → Table Front → Type 0
LeavesTidied r fronts = (left : Image) → MayLeave fronts left → Tidied r (at left)

-- the fronts of an earlier moment stay
pub past_stays : (t u : Told) → Passes t u → (k : ℕ) → k < clock t → fronts_at u k ≡ fronts_at t k
past_stays t u (inl same) k lt =
    sym (get_or_default u.past k t.fronts u.fronts (rw same.0 lt)) ∙ ap (λ past. get_or past k t.fronts) same.0
past_stays t u (inr more) k lt =
    ap (λ past. get_or past k u.fronts) more ∙ get_or_append_left t.past (t.fronts ∷ []) u.fronts k lt
    ∙ sym (get_or_default t.past k t.fronts u.fronts lt)

pub each_is_tidied : (t u : Told) → Passes t u → Tidied (at t.image) (at u.image) → (IsSynced t → IsSynced u) → IsSynced t
    → AtEach u (clock t) (LeavesTidied (at t.image))
each_is_tidied t u passes tidied synced is =
    let before : LeavesTidied (at t.image) t.fronts =
    λ left may. subst (λ (i : Image). Tidied (at t.image) (at i)) (sym (synced_leaves t left is may)) (tidied_refl (at t.image)) in
    let after : LeavesTidied (at t.image) u.fronts =
    λ left may. subst (λ (i : Image). Tidied (at t.image) (at i)) (sym (synced_leaves u left (synced is) may)) tidied in
    goes_on t u (clock t) (LeavesTidied (at t.image)) passes (started t (LeavesTidied (at t.image)) before) after

-- a call that changed the files
pub record IsStep (t u : Told) : Type 0 where
  pub passes : Passes t u
  pub tidied : Tidied (at t.image) (at u.image)
  pub synced : IsSynced t → IsSynced u
  pub lent : NoneLent t.fronts → NoneLent u.fronts
  pub stray_views : u.stray_views ≡ t.stray_views
  pub asked : u.asked ≡ t.asked

asked_same : (t u : Told) (id : ℕ) → u.asked ≡ t.asked → asked_of (main id) u ≡ asked_of (main id) t
asked_same t u id e = ap (sum_by (λ (v : Listed). cond (same (main id) v.name) v.len 0)) e

pub goes_step : (t u : Told) → IsStep t u → Goes t u
goes_step t u s = record {
  later = later t u s.passes;
  past = past_stays t u s.passes;
  tidied = s.tidied;
  synced = s.synced;
  each = λ is k low high left may. each_is_tidied t u s.passes s.tidied s.synced is k low high left may;
  lent = s.lent;
  stray_views = s.stray_views;
  asked = λ id. inl (asked_same t u id s.asked);
}

pub goes_refl : (t : Told) → Goes t t
goes_refl t = goes_step t t (record {
  passes = inl (refl, refl);
  tidied = tidied_refl (at t.image);
  synced = λ is. is;
  lent = λ is. is;
  stray_views = refl;
  asked = refl;
})

pub goes_trans : (t u v : Told) → Goes t u → Goes u v → Goes t v
goes_trans t u v a b = record {
  later = let p = a.later in let q = b.later in omega (arith, p, q);
  past = λ k lt. let p = a.later in b.past k (omega (arith, p, lt)) ∙ a.past k lt;
  tidied = tidied_trans (at t.image) (at u.image) (at v.image) a.tidied b.tidied;
  synced = λ is. b.synced (a.synced is);
  each = λ is k low high left may. elim (cases_lt k (clock u)) [
    | inl lt ↦ a.each is k low (omega (arith, lt)) left
        (subst (λ (f : Table Front). MayLeave f left) (b.past k lt) may)
    | inr ge ↦ tidied_trans (at t.image) (at u.image) (at left) a.tidied (b.each (a.synced is) k ge high left may)
  ];
  lent = λ is. b.lent (a.lent is);
  stray_views = b.stray_views ∙ a.stray_views;
  asked = λ id. elim (a.asked id) [
    | inl first ↦ elim (b.asked id) [
      | inl second ↦ inl (second ∙ first)
      | inr needs ↦ inr (needs_before (at t.image) (at u.image) id a.tidied needs)
    ]
    | inr needs ↦ inr needs
  ];
}

-- A file was removed

pub removed_lacks : (n : Name) (t u : Told) → IsWell t → Removed n t u → LacksOnly n (at t.image) (at u.image)
removed_lacks n t u well b = record {
  gone = ap (λ (i : Image). at i n) b.image ∙ at-without n t.image well.once;
  others = λ m apart. ap (λ (i : Image). at i m) b.image ∙ at-without_other n m t.image apart;
}

pub removed_goes : (n : Name) (t u : Told) → IsWell t → MayGo n (at t.image) → Removed n t u → Goes t u
removed_goes n t u well may b = goes_step t u (record {
  passes = b.passes;
  tidied = may (at u.image) (removed_lacks n t u well b);
  synced = λ is. synced-removed n t u is b;
  lent = λ none m f is. none m f
      (at-fewer n m f t.fronts (subst IsOnce (sym well.paired) well.once)
      (ap (λ (fs : Table Front). at fs m) (sym b.fronts) ∙ is));
  stray_views = b.stray_views;
  asked = b.asked;
})

-- a call that was refused changed nothing, or did its work
pub goes_or : (t u : Told) (Done : Type 0) → (Done → Goes t u) → (u ≡ t) ⊎ Done → Goes t u
goes_or t u Done done (inl e) = subst (λ (x : Told). Goes t x) (sym e) (goes_refl t)
goes_or t u Done done (inr d) = done d

-- A data file took its own name

not_true : (a b : Bool) → a ≡ not b → a ≡ true → b ≡ false
not_true a true e is = let never : true ≡ false = sym is ∙ e in absurd (cc never)
not_true a false e is = refl

not_false : (a b : Bool) → a ≡ not b → a ≡ false → b ≡ true
not_false a true e is = refl
not_false a false e is = let never : true ≡ false = sym e ∙ is in absurd (cc never)

module _ (id : ℕ) (t u : Told) (well : IsWell t) (may : MayTakeName id (at t.image)) (b : Renamed (main_temp id) (main id) t u) where
  from_is : same (main_temp id) (main id) ≡ false
  from_is = apart_kinds (main_temp id) (main id) (λ e. cc e)

  at_now : (m : Name) → at u.image m ≡ at (renamed (main_temp id) (main id) t.image) m
  at_now m = ap (λ (i : Image). at i m) b.image

  front_now : (m : Name) → at u.fronts m ≡ at (renamed (main_temp id) (main id) t.fronts) m
  front_now m = ap (λ (fs : Table Front). at fs m) b.fronts

  fronts_once : IsOnce (names t.fronts)
  fronts_once = subst IsOnce (sym well.paired) well.once

  others_stay : (m : Name) → same m (main_temp id) ≡ false → same m (main id) ≡ false → at u.image m ≡ at t.image m
  others_stay m p q = at_now m ∙ at-renamed_other (main_temp id) (main id) m t.image p q

  took_name : is_some (at t.image (main_temp id)) ≡ true → Tidied (at t.image) (at u.image) × HasTakenName id (at t.image) (at u.image)
  took_name there =
      let absent : is_some (at t.image (main id)) ≡ false = not_true (is_some (at t.image (main_temp id))) (is_some (at t.image (main id))) may.one there in
      let moved : at u.image (main id) ≡ at t.image (main_temp id) = at_now (main id) ∙ at-renamed (main_temp id) (main id) t.image there absent in
      let gone : at u.image (main_temp id) ≡ None = at_now (main_temp id) ∙ at-renamed_from (main_temp id) (main id) t.image well.once from_is in (
        takes_tidied (at t.image) (at u.image) id (record {
          was_there = there;
          output = may.output there;
          no_input = may.no_input there;
          no_main = λ is. let never : true ≡ false = sym is ∙ absent in cc never;
          moved = moved;
          gone = gone;
          others = others_stay;
        }),
        record { gone = gone; there = ap is_some moved ∙ there; others = others_stay },
      )

  had_name : is_some (at t.image (main_temp id)) ≡ false → Tidied (at t.image) (at u.image) × HasTakenName id (at t.image) (at u.image)
  had_name absent =
      let still : u.image ≡ t.image = b.image ∙ renamed-absent (main_temp id) (main id) t.image absent in
      let there : is_some (at t.image (main id)) ≡ true = not_false (is_some (at t.image (main_temp id))) (is_some (at t.image (main id))) may.one absent in (
        subst (λ (i : Image). Tidied (at t.image) (at i)) (sym still) (tidied_refl (at t.image)),
        record {
          gone = ap (λ (i : Image). at i (main_temp id)) still ∙ none_is (at t.image (main_temp id)) absent;
          there = ap (λ (i : Image). is_some (at i (main id))) still ∙ there;
          others = λ m p q. ap (λ (i : Image). at i m) still;
        },
      ) where
        none_is : (o : Option (List ℕ)) → is_some o ≡ false → o ≡ None
        none_is None e = refl
        none_is (Some x) e = absurd (cc e)

  named_now : Tidied (at t.image) (at u.image) × HasTakenName id (at t.image) (at u.image)
  named_now = elim (cases_Bool (is_some (at t.image (main_temp id)))) [ inl p ↦ took_name p | inr p ↦ had_name p ]

  lent_now : NoneLent t.fronts → NoneLent u.fronts
  lent_now none m f is =
      elim (cases_Bool (is_some (at t.fronts (main_temp id)))) [
        | inl there ↦
            let temp : is_some (at t.image (main_temp id)) ≡ true = sym (there_in_both t (main_temp id) well) ∙ there in
            let absent : is_some (at t.fronts (main id)) ≡ false = there_in_both t (main id) well
            ∙ not_true (is_some (at t.image (main_temp id))) (is_some (at t.image (main id))) may.one temp in
            elim (cases_Bool (same m (main id))) [
              | inl p ↦ none (main_temp id) f (sym (at-renamed (main_temp id) (main id) t.fronts there absent)
                  ∙ sym (front_now (main id)) ∙ ap (at u.fronts) (sym (same_eq m (main id) p)) ∙ is)
              | inr p ↦ elim (cases_Bool (same m (main_temp id))) [
                | inl q ↦
                    let gone : at u.fronts m ≡ None = ap (at u.fronts) (same_eq m (main_temp id) q) ∙ front_now (main_temp id)
                    ∙ at-renamed_from (main_temp id) (main id) t.fronts fronts_once from_is in
                    let never : None ≡ Some f = sym gone ∙ is in
                    absurd (cc never)
                | inr q ↦ none m f (sym (at-renamed_other (main_temp id) (main id) m t.fronts q p) ∙ sym (front_now m) ∙ is)
              ]
            ]
        | inr absent ↦ none m f
            (ap (λ (fs : Table Front). at fs m) (sym (renamed-absent (main_temp id) (main id) t.fronts absent)) ∙ sym (front_now m) ∙ is)
      ]

pub renamed_goes : (id : ℕ) (t u : Told) → IsWell t → MayTakeName id (at t.image) → Renamed (main_temp id) (main id) t u → Goes t u
renamed_goes id t u well may b = goes_step t u (record {
  passes = b.passes;
  tidied = (named_now id t u well may b).0;
  synced = λ is. synced-renamed (main_temp id) (main id) t u is b;
  lent = lent_now id t u well may b;
  stray_views = b.stray_views;
  asked = b.asked;
})

pub renamed_named : (id : ℕ) (t u : Told) → IsWell t → MayTakeName id (at t.image) → Renamed (main_temp id) (main id) t u
    → HasTakenName id (at t.image) (at u.image)
renamed_named id t u well may b = (named_now id t u well may b).1

-- A file was synced

changed_whole : (n : Name) (image : Image) (bytes : List ℕ) → bytes ≡ bytes_of n image
    → changed n (all_synced bytes) (whole_fronts image) ≡ whole_fronts image
changed_whole n [] bytes is = refl
changed_whole n (e ∷ es) bytes is =
    elim (cases_Bool (same n e.0)) [
      | inl p ↦
          let this : bytes_of n (e ∷ es) ≡ e.1 = rw p refl in
          rw p (ap (λ (b : List ℕ). (e.0, all_synced b (front_of e.1)) ∷ whole_fronts es) (is ∙ this))
      | inr p ↦
          let later : bytes_of n (e ∷ es) ≡ bytes_of n es = rw p refl in
          rw p (ap (λ (fs : Table Front). (e.0, front_of e.1) ∷ fs) (changed_whole n es bytes (is ∙ later)))
    ]

lent_changed : (bytes : List ℕ) (o : Option Front) (g : Front) → option_map (all_synced bytes) o ≡ Some g
    → ((f : Front) → o ≡ Some f → f.lent ≡ false) → g.lent ≡ false
lent_changed bytes None g is none = absurd (cc is)
lent_changed bytes (Some f) g is none =
    let e : all_synced bytes f ≡ g = cc is in ap (λ (x : Front). x.lent) (sym e) ∙ none f refl

pub synced_goes : (n : Name) (t u : Told) → Synced n t u → Goes t u
synced_goes n t u b = goes_step t u (record {
  passes = b.passes;
  tidied = subst (λ (i : Image). Tidied (at t.image) (at i)) (sym b.image) (tidied_refl (at t.image));
  synced = λ is. b.fronts ∙ ap (changed n (all_synced (bytes_of n t.image))) is ∙ changed_whole n t.image (bytes_of n t.image) refl
      ∙ ap whole_fronts (sym b.image);
  lent = λ none m g is. elim (cases_Bool (same m n)) [
    | inl p ↦ lent_changed (bytes_of n t.image) (at t.fronts n) g
        (sym (at-changed n (all_synced (bytes_of n t.image)) t.fronts)
        ∙ ap (λ (fs : Table Front). at fs n) (sym b.fronts) ∙ ap (at u.fronts) (sym (same_eq m n p)) ∙ is)
        (λ f there. none n f there)
    | inr p ↦ none m g (sym (at-changed_other n m (all_synced (bytes_of n t.image)) t.fronts p)
        ∙ ap (λ (fs : Table Front). at fs m) (sym b.fronts) ∙ is)
  ];
  stray_views = b.stray_views;
  asked = b.asked;
})

-- the file that was synced, and those that were so before

all_of : (bytes : List ℕ) (o : Option Front) → IsSomeAnd o (λ f. f.lent ≡ false)
    → option_map (all_synced bytes) o ≡ Some (front_of bytes)
all_of bytes None lent = absurd lent
all_of bytes (Some f) lent =
    ap (λ (b : Bool). Some (record { synced = bytes; longest = length bytes; pending = []; lent = b })) lent

synced_this : (n : Name) (t u : Told) → IsOurs n t → Synced n t u → IsSyncedFile u n
synced_this n t u ours b =
    ap (λ (fs : Table Front). at fs n) b.fronts
    ∙ at-changed n (all_synced (bytes_of n t.image)) t.fronts
    ∙ all_of (bytes_of n t.image) (at t.fronts n) ours.1
    ∙ ap (λ (i : Image). Some (front_of (bytes_of n i))) (sym b.image)

pub syncs_too : (n : Name) (t u : Told) → IsOurs n t → Synced n t u → SyncsToo n t u
syncs_too n t u ours b = record {
  this = synced_this n t u ours b;
  kept = λ m was. elim (cases_Bool (same m n)) [
    | inl p ↦ subst (IsSyncedFile u) (sym (same_eq m n p)) (synced_this n t u ours b)
    | inr p ↦
        ap (λ (fs : Table Front). at fs m) b.fronts
        ∙ at-changed_other n m (all_synced (bytes_of n t.image)) t.fronts p
        ∙ was
        ∙ ap (λ (i : Image). Some (front_of (bytes_of m i))) (sym b.image)
  ];
}

-- calls that change no file
pub syncs_still : (n : Name) (t u v : Told) → SyncsToo n t u → v.image ≡ u.image → v.fronts ≡ u.fronts → SyncsToo n t v
syncs_still n t u v syncs image fronts =
    let still : (m : Name) → IsSyncedFile u m → IsSyncedFile v m = λ m was.
    ap (λ (fs : Table Front). at fs m) fronts ∙ was ∙ ap (λ (i : Image). Some (front_of (bytes_of m i))) (sym image) in
    record { this = still n syncs.this; kept = λ m was. still m (syncs.kept m was) }

-- A view was made or refused

asked_more : (k : Name) (n : Name) (len : ℕ) (vs : List Listed) → same k n ≡ false
    → sum_by (λ (v : Listed). cond (same k v.name) v.len 0) (vs ++ (record { name = n; len = len }) ∷ [])
    ≡ sum_by (λ (v : Listed). cond (same k v.name) v.len 0) vs
asked_more k n len vs apart =
    sum_by-append (λ (v : Listed). cond (same k v.name) v.len 0) vs ((record { name = n; len = len }) ∷ [])
    ∙ rw apart (omega arith)

pub viewed_goes : (made : Bool) (n : Name) (from len : ℕ) (t : Told) → is_within n from len t.image ≡ true
    → ((k : ℕ) → (same (main k) n ≡ false) ⊎ NeedsScan (at t.image) k) → Goes t (viewed made n from len t)
viewed_goes made n from len t within needed = record {
  later = omega arith;
  past = λ k lt. refl;
  tidied = tidied_refl (at t.image);
  synced = λ is. is;
  each = λ is k low high left may. each_is_tidied t t (inl (refl, refl)) (tidied_refl (at t.image)) (λ s. s) is k low high left may;
  lent = λ none. none;
  stray_views = rw within refl;
  asked = λ k. elim (needed k) [
    | inl apart ↦ inl (go made k apart)
    | inr needs ↦ inr needs
  ];
} where
  go : (b : Bool) (k : ℕ) → same (main k) n ≡ false → asked_of (main k) (viewed b n from len t) ≡ asked_of (main k) t
  go true k apart = asked_more (main k) n len t.asked apart
  go false k apart = refl

pub goes_same : (t u : Told) → u ≡ t → Goes t u
goes_same t u e = subst (λ (x : Told). Goes t x) (sym e) (goes_refl t)

-- A view of a file that is no data file was made, or none

pub asks_goes : (n : Name) (len : ℕ) (t u : Told) → ((k : ℕ) → same (main k) n ≡ false) → AsksOnly n len t u → Goes t u
asks_goes n len t u apart asks = record {
  later = omega (arith, ap length asks.past);
  past = λ k lt. ap (λ past. get_or past k u.fronts) asks.past ∙ ap (λ f. get_or t.past k f) asks.fronts;
  tidied = tidied;
  synced = synced;
  each = λ is k low high left may. each_is_tidied t u (inl (asks.past, asks.fronts)) tidied synced is k low high left may;
  lent = λ none. subst NoneLent (sym asks.fronts) none;
  stray_views = asks.stray_views;
  asked = λ k. inl (elim asks.asked [
    | inl none ↦ asked_same t u k none
    | inr one ↦ ap (sum_by (λ (v : Listed). cond (same (main k) v.name) v.len 0)) one ∙ asked_more (main k) n len t.asked (apart k)
  ]);
}
  where
    tidied : Tidied (at t.image) (at u.image)
    tidied = subst (λ (i : Image). Tidied (at t.image) (at i)) (sym asks.image) (tidied_refl (at t.image))

    synced : IsSynced t → IsSynced u
    synced is = asks.fronts ∙ is ∙ ap (map (λ (e : Name × List ℕ). (e.0, front_of e.1))) (sym asks.image)
