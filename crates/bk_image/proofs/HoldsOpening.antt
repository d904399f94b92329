-- A disk that is sound and synced holds its log, with no file active.
use Rattle.std.proofs.Common.{◌≡◌, ℕ, ◌<◌, false, List, [], ◌∷◌}
use Rattle.std.proofs.Common.{length, Option, None, Some, refl, sym, ap, subst, ◌∙◌, arith}
use Rattle.std.specs.Option.{option_map, unwrap_or}
use Rattle.std.proofs.lemmas.Bool.{true≢false}
use Rattle.std.proofs.lemmas.List.{append-nil}
use Rattle.bk_base.specs.declared.names.Kind.{Kind}
use Rattle.bk_base.specs.declared.names.Kind.TheVariants.{Main, MainTemp}
use Rattle.bk_base.specs.declared.names.Name.{Name}
use Rattle.bk_base.specs.declared.writes.Write.{Write}
use Rattle.bk_laws.specs.Log.{IsLog}
use Rattle.bk_disk.specs.Told.{Front, Image, IsAbsent, IsWell, Told, at}
use Rattle.bk_disk.specs.Crashes.{IsSynced, front_of}
use Rattle.bk_disk.proofs.Leaves.{whole_fronts}
use Rattle.bk_image.specs.Readings.{main, swap, synced_of}
use Rattle.bk_image.specs.CountedFiles.{CountsAs, HasNoList, IsInput, IsOutput}
use Rattle.bk_image.specs.Core.{Core, RestsAt}
use Rattle.bk_image.specs.Holds.{AreFree, Holds, IsIdle, IsYoungest, Shape, Young, shape_of}
use Rattle.bk_image.specs.RecoveredLog.{Safe}
use Rattle.bk_image.specs.SoundDirectory.{IsSoundDisk}
use Rattle.bk_image.proofs.OneLog.{none_sound}
use Rattle.bk_image.proofs.OneName.{none_of}
use Rattle.bk_image.proofs.Places.{input_kept, list_kept, output_kept}
use Rattle.bk_image.proofs.SafeMoves.{safe_as}

-- ---- the fronts of a disk that is synced

pub at-whole : (image : Image) (n : Name) → at (whole_fronts image) n ≡ option_map front_of (at image n)
at-whole [] n = refl
at-whole (e ∷ es) n = grind (arith, at-whole es n)

front_at : (t : Told) (n : Name) → IsSynced t → at t.fronts n ≡ option_map front_of (at t.image n)
front_at t n synced = ap (λ fronts. at fronts n) synced ∙ at-whole t.image n

-- the synced bytes are all that reads
pub synced_reads : (t : Told) → IsSynced t → (n : Name) → synced_of t.fronts n ≡ at t.image n
synced_reads t synced n =
    ap (λ (o : Option Front). option_map (λ f. f.synced) o) (front_at t n synced)
    ∙ go (at t.image n) where
      go : (o : Option (List ℕ)) → option_map (λ f. f.synced) (option_map front_of o) ≡ o
      go None = refl
      go (Some bytes) = refl

-- no file is lent
pub synced_ours : (t : Told) → IsSynced t → (n : Name) (f : Front) → at t.fronts n ≡ Some f
    → f.lent ≡ false
synced_ours t synced n f is = go (at t.image n) (sym (front_at t n synced) ∙ is) where
  go : (o : Option (List ℕ)) → option_map front_of o ≡ Some f → f.lent ≡ false
  go None none = absurd (cc none)
  go (Some bytes) some =
      let this : front_of bytes ≡ f = cc some in ap (λ (g : Front). g.lent) (sym this)

rests_whole : (o : Option (List ℕ)) → RestsAt o (option_map front_of o)
rests_whole None = refl
rests_whole (Some bytes) = record {
  there = refl;
  reads = λ ours. refl;
  whole = λ ours. omega arith;
  nothing_pending = λ ours. refl;
}

-- ---- a sound disk

pub core_opens : {t : Told} {log : List Write} → (s : IsSoundDisk t log)
    → Core t.image t.fronts s.sound.books None log [] []
core_opens {t} {log} s =
    let recovers = s.sound.recovers in
    let here : Safe (at t.image) s.sound.books log = record {
      base = log;
      recovers = recovers;
      hints = s.sound.hints;
      same_map = λ key. refl;
      within = λ w is_in. is_in;
    } in
    record {
      safe =
          safe_as (at t.image) (synced_of t.fronts) s.sound.books log
          (λ n. sym (synced_reads t s.synced n)) here;
      rises = subst IsLog (sym (append-nil log)) recovers.rising;
      fit = tt;
      has_active = refl;
      others = λ n other.
          subst (λ o. RestsAt (at t.image n) o) (sym (front_at t n s.synced))
          (rests_whole (at t.image n));
      lent = λ n f is lent. absurd (true≢false (sym lent ∙ synced_ours t s.synced n f is));
    }

-- of any J that holds of it
pub holds_sound : {J : Shape → Type 0} {t : Told} {log : List Write} {last : ℕ}
    → (s : IsSoundDisk t log) → AreFree last t.image t.fronts
    → J (shape_of t.fronts None last s.sound.books log log)
    → Holds J t None last log (length log) []
holds_sound {log = log} s free job = record {
  books = s.sound.books;
  settled = log;
  recent = [];
  split = sym (append-nil log);
  kept_safe = omega arith;
  well = s.well;
  within = tt;
  free = free;
  core = core_opens s;
  job = job;
}

-- no file has an id to come, and no list names one
pub free_absent : (t : Told) (last : ℕ) → IsSynced t
    → ((n : Name) → last < n.id → IsAbsent n t.image)
    → ((id : ℕ) → last < id → IsInput (at t.image) id → ⊥)
    → ((id : ℕ) → last < id → IsOutput (at t.image) id → ⊥) → AreFree last t.image t.fronts
free_absent t last synced absent no_input no_output = record {
  empty = λ id above. ap (λ (o : Option (List ℕ)). unwrap_or o []) (none (main id) above);
  ours = λ id f above is. synced_ours t synced (main id) f is;
  others = λ n above no_main. none n above;
  no_input = λ id above i. no_input id above (input_kept _ _ id lists i);
  no_output = λ id above i. no_output id above (output_kept _ _ id lists i);
} where
  none : (n : Name) → last < n.id → at t.image n ≡ None
  none n above = none_of (at t.image n) (absent n above)

  lists : (k : ℕ) → synced_of t.fronts (swap k) ≡ at t.image (swap k)
  lists k = synced_reads t synced (swap k)

-- and while no merge has left a list
pub holds_opens : {t : Told} {log : List Write} {last : ℕ} → IsSoundDisk t log
    → HasNoList (at t.image) → ((n : Name) → last < n.id → IsAbsent n t.image)
    → Holds (Young IsIdle) t None last log (length log) []
holds_opens {t} {log} {last} s no_list absent =
    let free = free_absent t last s.synced absent (λ id above i. no_list i.0 i.1)
    (λ id above i. no_list i.0 i.1) in
    let young : IsYoungest (shape_of t.fronts None last s.sound.books log log) =
    λ id n w x active counts other w_in x_in. absurd (cc active) in
    let idle : IsIdle (shape_of t.fronts None last s.sound.books log log) =
    λ l has. no_list l (list_kept _ _ l (λ k. synced_reads t s.synced (swap k)) has) in
    holds_sound s free (young, idle)

-- ---- a directory without data files holds the empty log

no_counts : (image : Image) → ((id : ℕ) → IsAbsent (main id) image) → HasNoList (at image)
    → (kind : Kind) (id : ℕ) → CountsAs kind (at image) id → ⊥
no_counts image absent no_list Main id c = true≢false (sym c.0 ∙ absent id)
no_counts image absent no_list MainTemp id c = let (l, has, is_in) = c.1 in no_list l has
no_counts image absent no_list kind id c = absurd c

pub sound_empty : {t : Told} → IsWell t → IsSynced t → ((id : ℕ) → IsAbsent (main id) t.image)
    → HasNoList (at t.image) → IsSoundDisk t []
sound_empty {t} well synced absent no_list = record {
  well = well;
  sound = none_sound t.image (λ n c. no_counts t.image absent no_list n.kind n.id c);
  synced = synced;
}
