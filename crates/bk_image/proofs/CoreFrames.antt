-- What leaves a core as it is: calls on files beside the active one.
use Rattle.std.proofs.Common.{◌≡◌, ℕ, ◌≤◌, true, false, List, [], length, Option, Some, None, refl, sym, ap, subst, ◌∙◌, inl, inr}
use Rattle.std.specs.Option.{is_some, option_map}
use Rattle.std.proofs.lemmas.Bool.{cases_Bool, true≢false}
use Rattle.bk_base.specs.declared.names.Kind.{Kind}
use Rattle.bk_base.specs.declared.names.Kind.TheVariants.{Main, MainTemp, Hint, HintTemp, Swap, SwapTemp, Settings}
use Rattle.bk_base.specs.declared.names.Name.{Name}
use Rattle.bk_base.specs.declared.writes.Write.{Write}
use Rattle.bk_disk.specs.Names.{same}
use Rattle.bk_disk.specs.Told.{Front, Table, Told, at}
use Rattle.bk_disk.proofs.Frames.{SameAt}
use Rattle.bk_disk.proofs.Names.{same_eq, same_sym}
use Rattle.bk_image.specs.Readings.{Books, Reading, hint, main, swap, synced_of}
use Rattle.bk_image.specs.CountedFiles.{Counts, CountsAs, IsOutput}
use Rattle.bk_image.specs.RecoveredLog.{Safe}
use Rattle.bk_image.specs.Core.{ActiveFile, Core, HasActive, IsSettledAt, MayBeLent, IsOther, RestsAt, is_temporary}
use Rattle.bk_image.proofs.OneName.{SameBut, by_name}
use Rattle.bk_image.proofs.Places.{other_kind}
use Rattle.bk_image.proofs.SafeFiles.{AllBut}

-- ---- names and readings

pub hint_apart : (id other : ℕ) → same (hint id) (main other) ≡ false
hint_apart id other = other_kind (hint id) (main other) refl

pub swap_apart : (id other : ℕ) → same (swap id) (main other) ≡ false
swap_apart id other = other_kind (swap id) (main other) refl

-- a name of another kind than that of data files
pub other_than : (active : Option ActiveFile) (n : Name)
    → ((a : ActiveFile) → same n (main a.id) ≡ false) → IsOther active n
other_than None n parted = tt
other_than (Some a) n parted = parted a

-- the lists are the same
pub lists_stayed : (id : ℕ) (r s : Reading) → AllBut (main id) r s → (k : ℕ)
    → s (swap k) ≡ r (swap k)
lists_stayed id r s others k = others (swap k) (swap_apart k id)

-- a file has synced bytes where it has a front
pub there_synced : (fronts : Table Front) (n : Name)
    → is_some (synced_of fronts n) ≡ is_some (at fronts n)
there_synced fronts n = go (at fronts n) where
  go : (o : Option Front) → is_some (option_map (λ (f : Front). f.synced) o) ≡ is_some o
  go None = refl
  go (Some f) = refl

-- the synced bytes after a call on one file
pub synced_others : (n : Name) (old new : Told) → SameBut n old new → (m : Name) → same m n ≡ false
    → synced_of new.fronts m ≡ synced_of old.fronts m
synced_others n old new but m other = ap (option_map (λ (f : Front). f.synced)) (but m other).front

pub synced_same : (n : Name) (f g : Front) (old new : Told) → at old.fronts n ≡ Some f
    → at new.fronts n ≡ Some g
    → g.synced ≡ f.synced → SameBut n old new → synced_of old.fronts ≡ synced_of new.fronts
synced_same n f g old new was is stays but =
    let each : (m : Name) → synced_of old.fronts m ≡ synced_of new.fronts m =
    by_name (λ m. synced_of old.fronts m ≡ synced_of new.fronts m) n
    (rw (was, is) (ap Some (sym stays)))
    (λ m other. sym (synced_others n old new but m other)) in
    λ i m. each m i

-- ---- the parts of a core that a call on the active file leaves

pub others_stay : (n : Name) (old new : Told) →
    ((m : Name) → same m n ≡ false → RestsAt (at old.image m) (at old.fronts m))
    → SameBut n old new → (m : Name) → same m n ≡ false → RestsAt (at new.image m) (at new.fronts m)
others_stay n old new rests but m other = let stays = but m other in
    rw (stays.image, stays.front) (rests m other)

-- a file that isn't appended to, with its synced bytes
pub settled_front : (f : Front) → f.longest ≤ length f.synced → f.pending ≡ []
    → IsSettledAt (Some f.synced) f
settled_front f whole none =
    record { there = refl; reads = λ _. refl; whole = λ _. whole; nothing_pending = λ _. none }

-- the files that may be lent
abbrev pub LentAreLoose : Table Front → Type 0
LentAreLoose fronts = (m : Name) (f : Front) → at fronts m ≡ Some f → f.lent ≡ true
    → MayBeLent fronts m

pub lent_stay : (n : Name) (g : Front) (old new : Told) → at new.fronts n ≡ Some g → g.lent ≡ false
    → SameBut n old new
    → ((id : ℕ) → IsOutput (synced_of new.fronts) id → IsOutput (synced_of old.fronts) id)
    → LentAreLoose old.fronts → LentAreLoose new.fronts
lent_stay n g old new here ours but outputs lent m f is lends =
    elim (cases_Bool (same m n)) [
      | inl p ↦
          let this : at new.fronts m ≡ Some g = subst (λ (k : Name). at new.fronts k ≡ Some g)
          (sym (same_eq m n p)) here in
          let one : f ≡ g = cc (sym is ∙ this) in
          absurd (true≢false (sym lends ∙ ap (λ (x : Front). x.lent) one ∙ ours))
      | inr p ↦
          let loose = lent m f (sym (but m p).front ∙ is) lends in
          record {
            temporary = loose.temporary;
            unlisted = λ kind out. loose.unlisted kind (outputs m.id out);
          }
    ]

-- ---- which files are lent

-- a lent file doesn't count
not_lent : (kind : Kind) (r : Reading) (id : ℕ) → CountsAs kind r id → is_temporary kind ≡ true
    → (kind ≡ MainTemp → IsOutput r id → ⊥) → ⊥
not_lent Main r id counts temporary unlisted = true≢false (sym temporary)
not_lent MainTemp r id counts temporary unlisted = unlisted refl counts.1
not_lent Hint r id counts temporary unlisted = counts
not_lent HintTemp r id counts temporary unlisted = counts
not_lent Swap r id counts temporary unlisted = counts
not_lent SwapTemp r id counts temporary unlisted = counts
not_lent Settings r id counts temporary unlisted = counts

pub ours_by_kind : (fronts : Table Front) → LentAreLoose fronts → (n : Name)
    → is_temporary n.kind ≡ false
    → (f : Front) → at fronts n ≡ Some f → f.lent ≡ false
ours_by_kind fronts loose n lasting f is =
    elim (cases_Bool f.lent) [
      | inl lent ↦ absurd (true≢false (sym (loose n f is lent).temporary ∙ lasting))
      | inr ours ↦ ours
    ]

pub ours_by_count : (fronts : Table Front) → LentAreLoose fronts → (n : Name)
    → Counts (synced_of fronts) n
    → (f : Front) → at fronts n ≡ Some f → f.lent ≡ false
ours_by_count fronts loose n counts f is =
    elim (cases_Bool f.lent) [
      | inl lent ↦
          let may = loose n f is lent in
          absurd (not_lent n.kind (synced_of fronts) n.id counts may.temporary may.unlisted)
      | inr ours ↦ ours
    ]

-- ---- the frame

-- All files but the active one rest, and the synced bytes hold the settled writes. The active file is
-- as it was. The books may differ at other files.
pub record IsFramed (active : Option ActiveFile) (books later : Books) (settled : List Write)
    (old new : Told) : Type 0 where
  pub safe : Safe (synced_of new.fronts) later settled
  pub rests : (n : Name) → IsOther active n → RestsAt (at new.image n) (at new.fronts n)
  pub loose : LentAreLoose new.fronts
  pub stays : (a : ActiveFile) → active ≡ Some a → SameAt (main a.id) old new
  pub counts : (a : ActiveFile) → active ≡ Some a → Counts (synced_of old.fronts) (main a.id)
      → Counts (synced_of new.fronts) (main a.id)
  pub no_hint : (a : ActiveFile) → active ≡ Some a → at old.fronts (hint a.id) ≡ None
      → at new.fronts (hint a.id) ≡ None
  pub book : (a : ActiveFile) → active ≡ Some a → later (main a.id) ≡ books (main a.id)

active_framed : (old new : Told) (books later : Books) (active : Option ActiveFile)
    (settled recent tried : List Write)
    → IsFramed active books later settled old new
    → HasActive active old.image old.fronts books recent tried
    → HasActive active new.image new.fronts later recent tried
active_framed old new books later None settled recent tried framed has = has
active_framed old new books later (Some a) settled recent tried framed has =
    let stays = framed.stays a refl in
    let book : later (main a.id) ≡ books (main a.id) = framed.book a refl in
    record {
      front = has.front;
      is = stays.front ∙ has.is;
      ours = has.ours;
      counts = framed.counts a refl has.counts;
      no_hint = framed.no_hint a refl has.no_hint;
      synced = rw book has.synced;
      pending = has.pending;
      rest = has.rest;
      known = rw book has.known;
      through = has.through;
      bytes = stays.image ∙ rw book has.bytes;
    }

-- One name was touched, which isn't the active file's: what stands there now rests.
pub record IsTouched (n : Name) (active : Option ActiveFile) (books later : Books)
    (settled : List Write) (old new : Told) : Type 0 where
  pub other : IsOther active n
  pub rests : RestsAt (at new.image n) (at new.fronts n)
  pub safe : Safe (synced_of new.fronts) later settled
  pub loose : LentAreLoose new.fronts
  -- of the active file
  pub counts : (a : ActiveFile) → active ≡ Some a → Counts (synced_of old.fronts) (main a.id)
      → Counts (synced_of new.fronts) (main a.id)
  pub no_hint : (a : ActiveFile) → active ≡ Some a → at old.fronts (hint a.id) ≡ None
      → at new.fronts (hint a.id) ≡ None
  pub book : (a : ActiveFile) → active ≡ Some a → later (main a.id) ≡ books (main a.id)

-- the active file has another name
pub parted : (active : Option ActiveFile) (n : Name) → IsOther active n → (a : ActiveFile)
    → active ≡ Some a
    → same (main a.id) n ≡ false
parted active n other a is =
    same_sym (main a.id) n ∙ subst (λ (o : Option ActiveFile). IsOther o n) is other

-- the hint of the active file doesn't come by a change of another name
pub still_no_hint : (n : Name) (id : ℕ) (old new : Told) → SameBut n old new
    → (same (hint id) n ≡ true → at new.fronts n ≡ None)
    → at old.fronts (hint id) ≡ None → at new.fronts (hint id) ≡ None
still_no_hint n id old new but here none =
    elim (cases_Bool (same (hint id) n)) [
      | inl p ↦ subst (λ (k : Name). at new.fronts k ≡ None) (sym (same_eq (hint id) n p)) (here p)
      | inr p ↦ (but (hint id) p).front ∙ none
    ]

-- what a framed call leaves
module _ {old new : Told} {books later : Books} {active : Option ActiveFile}
    {settled recent tried : List Write} where
  pub core_framed : Core old.image old.fronts books active settled recent tried
      → IsFramed active books later settled old new
      → Core new.image new.fronts later active settled recent tried
  core_framed core framed = record {
    safe = framed.safe;
    rises = core.rises;
    fit = core.fit;
    has_active = active_framed old new books later active settled recent tried framed
        core.has_active;
    others = framed.rests;
    lent = framed.loose;
  }

  pub core_touched : (n : Name)
      → Core old.image old.fronts books active settled recent tried → SameBut n old new
      → IsTouched n active books later settled old new
      → Core new.image new.fronts later active settled recent tried
  core_touched n core but touched =
      core_framed core
      (record {
        safe = touched.safe;
        rests = by_name (λ k. IsOther active k → RestsAt (at new.image k) (at new.fronts k)) n
            (λ _. touched.rests)
            (λ k apart_n is_other. let stays = but k apart_n in
            rw (stays.image, stays.front) (core.others k is_other));
        loose = touched.loose;
        stays = λ a is. but (main a.id) (parted active n touched.other a is);
        counts = touched.counts;
        no_hint = touched.no_hint;
        book = touched.book;
      })
