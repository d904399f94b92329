-- What the calls of an event do to a disk that holds a log: an append, the cut and the sync that
-- mend one, a sync.
use Rattle.std.proofs.Common.{◌≡◌, ℕ, ◌<◌, ◌≤◌, List, [], ◌∷◌, ◌++◌, length, take, Option}
use Rattle.std.proofs.Common.{Some, refl, sym, ap, subst, ◌∙◌, arith, append_assoc, length-append}
use Rattle.std.specs.List.{AllByRecursion}
use Rattle.std.proofs.lemmas.List.{append-nil, take-take, take_all}
use Rattle.bk_base.specs.declared.writes.Write.{Write}
use Rattle.bk_laws.specs.Log.{IsLog, last_seq}
use Rattle.bk_laws.specs.Record.{IsWritable, record_of, records_of}
use Rattle.bk_disk.specs.Told.{Front, Table, Told, bytes_of}
use Rattle.bk_disk.specs.Calls.{Appended, Cut, Synced}
use Rattle.bk_disk.proofs.Files.{well_appended, well_cut, well_synced}
use Rattle.bk_image.specs.Readings.{Books, added, main, synced_of}
use Rattle.bk_image.specs.Core.{ActiveFile, Core}
use Rattle.bk_image.specs.Holds.{Holds, Lasts, Shape, Syncs, lent_in, shape_of}
use Rattle.bk_image.proofs.BookEdits.{added_here}
use Rattle.bk_image.proofs.CoreEvents.{append_part, append_whole, cut_back, grown_by, settle}
use Rattle.bk_image.proofs.CoreFrames.{synced_others}
use Rattle.bk_image.proofs.HoldsFrames.{bytes_as, free_touched, lent_all, lent_as, many_writes}
use Rattle.bk_image.proofs.HoldsFrames.{same_lent, same_shape, shows_same, synced_as}
use Rattle.bk_image.proofs.Logs.{rises-append, rises-front}
use Rattle.bk_image.proofs.OneName.{SameBut, one_appended, one_cut, one_synced}

-- ---- what the parts say of the whole

module _ {J : Shape → Type 0} {t : Told} {active : Option ActiveFile} {last : ℕ}
    {log : List Write} {kept : ℕ} {tried : List Write} where
  pub holds_rises : Holds J t active last log kept tried → IsLog log
  holds_rises h =
      subst IsLog (sym h.split)
      (rises-front 0 (h.settled ++ h.recent) tried
      (subst IsLog (sym (append_assoc h.settled h.recent tried)) h.core.rises))

  pub holds_low : Holds J t active last log kept tried → kept ≤ length log
  holds_low h = omega (arith, h.kept_safe, ap length h.split, length-append h.settled h.recent)

  -- fewer writes are asked for
  pub holds_fewer : (fewer : ℕ) → fewer ≤ kept → Holds J t active last log kept tried
      → Holds J t active last log fewer tried
  holds_fewer fewer low h = record {
    books = h.books;
    settled = h.settled;
    recent = h.recent;
    split = h.split;
    kept_safe = omega (arith, low, h.kept_safe);
    well = h.well;
    within = h.within;
    free = h.free;
    core = h.core;
    job = h.job;
  }

  -- neither a file nor a front changed
  pub holds_same : (now : Told) → Holds J t active last log kept tried → now.image ≡ t.image
      → now.fronts ≡ t.fronts → Holds J now active last log kept tried
  holds_same now h image fronts = record {
    books = h.books;
    settled = h.settled;
    recent = h.recent;
    split = h.split;
    kept_safe = h.kept_safe;
    well = record { once = rw image h.well.once; paired = rw (image, fronts) h.well.paired };
    within = h.within;
    free = rw (image, fronts) h.free;
    core = rw (image, fronts) h.core;
    job = rw fronts h.job;
  }

-- what may be said besides follows
pub holds_for : {J K : Shape → Type 0} {t : Told} {active : Option ActiveFile} {last : ℕ}
    {log : List Write} {kept : ℕ} {tried : List Write} → ((v : Shape) → J v → K v)
    → Holds J t active last log kept tried → Holds K t active last log kept tried
holds_for follows h = record {
  books = h.books;
  settled = h.settled;
  recent = h.recent;
  split = h.split;
  kept_safe = h.kept_safe;
  well = h.well;
  within = h.within;
  free = h.free;
  core = h.core;
  job = follows _ h.job;
}

no_length : (ws : List Write) → length ws ≡ 0 → ws ≡ []
no_length [] none = refl
no_length (w ∷ ws) none = absurd (omega (arith, none))

-- where no crash takes a write of the log, none is recent
pub no_recent : {J : Shape → Type 0} {t : Told} {active : Option ActiveFile} {last : ℕ}
    {log tried : List Write} → (h : Holds J t active last log (length log) tried) → h.recent ≡ []
no_recent h =
    no_length h.recent
    (omega (arith, h.kept_safe, ap length h.split, length-append h.settled h.recent))

-- ---- an append

-- What is handed to one append: the records of these writes, which may go on behind the log.
pub record Follows (log more : List Write) (piece : List ℕ) : Type 0 where
  pub fit : AllByRecursion IsWritable more
  pub rises : IsLog (log ++ more)
  pub is : piece ≡ records_of more

-- of one write
pub follows_one : {J : Shape → Type 0} {t : Told} {active : Option ActiveFile} {last : ℕ}
    {log : List Write} {kept : ℕ} {tried : List Write} (w : Write)
    → Holds J t active last log kept tried → IsWritable w → last_seq log < w.seq.0
    → Follows log (w ∷ []) (record_of w)
follows_one {log = log} w h fit later = record {
  fit = (fit, tt);
  rises = rises-append 0 log (w ∷ []) (holds_rises h) (later, tt);
  is = sym (append-nil (record_of w));
}

rises_behind : {log more : List Write} {piece : List ℕ} (settled recent : List Write)
    → log ≡ settled ++ recent → Follows log more piece → IsLog (settled ++ (recent ++ more))
rises_behind {more = more} settled recent split f =
    subst IsLog
    (ap (λ (l : List Write). l ++ more) split ∙ append_assoc settled recent more) f.rises

module _ {J : Shape → Type 0} {old new : Told} {a : ActiveFile} {last : ℕ} {log : List Write}
    {kept : ℕ} {more : List Write} {piece : List ℕ} where
  -- an append of records, as far as it got: they are tried
  pub holds_part : (count : ℕ) → Holds J old (Some a) last log kept [] → Follows log more piece
      → Appended (main a.id) count piece old new → Holds J new (Some a) last log kept more
  holds_part count h f b =
      let file = h.core.has_active in
      let one = one_appended (main a.id) count piece _ file.front old new file.bytes file.is b in
      let shows = shows_same
      (main a.id) file.front _ old new file.is one.front refl refl one.others in
      record {
        books = h.books;
        settled = h.settled;
        recent = h.recent;
        split = h.split;
        kept_safe = h.kept_safe;
        well = well_appended (main a.id) count piece old new b h.well;
        within = h.within;
        free = free_touched a.id last old new h.within one.others h.free;
        core = append_part old new h.books a h.settled h.recent more count piece h.core f.fit
            (rises_behind h.settled h.recent h.split f) f.is b;
        job = same_shape J old.fronts new.fronts (Some a) last h.books h.settled log shows h.job;
      }

  -- one that went through: they stand in the log
  pub holds_more : Lasts J → Holds J old (Some a) last log kept [] → Follows log more piece
      → Appended (main a.id) (length piece) piece old new
      → Holds J new (Some (grown_by (length piece) a)) last (log ++ more) kept []
  holds_more lasts h f b =
      let grown = grown_by (length piece) a in
      let file = h.core.has_active in
      let one = one_appended (main a.id)
      (length piece) piece _ file.front old new file.bytes file.is b in
      let shows = shows_same
      (main a.id) file.front _ old new file.is one.front refl refl one.others in
      record {
        books = h.books;
        settled = h.settled;
        recent = h.recent ++ more;
        split = ap (λ (l : List Write). l ++ more) h.split ∙ append_assoc h.settled h.recent more;
        kept_safe = h.kept_safe;
        well = well_appended (main a.id) (length piece) piece old new b h.well;
        within = h.within;
        free = free_touched a.id last old new h.within one.others h.free;
        core = append_whole old new h.books a h.settled h.recent more piece h.core f.fit
            (rises_behind h.settled h.recent h.split f) f.is b;
        job = many_writes J lasts new.fronts (Some grown) last h.books h.settled log more
            (same_shape J old.fronts new.fronts (Some a) last h.books h.settled log shows h.job);
      }

-- ---- a cut and a sync

-- Nothing stands behind the known bytes. So it is after the cut, and where nothing is tried.
abbrev pub IsCut : ActiveFile → Told → Type 0
IsCut a t = bytes_of (main a.id) t.image ≡ take a.len (bytes_of (main a.id) t.image)

pub cut_at_rest : {J : Shape → Type 0} {t : Told} {a : ActiveFile} {last : ℕ} {log : List Write}
    {kept : ℕ} → Holds J t (Some a) last log kept [] → IsCut a t
cut_at_rest {t = t} {a = a} h =
    let file = h.core.has_active in
    let records = records_of (h.books (main a.id) ++ h.recent) in
    let bytes : bytes_of (main a.id) t.image ≡ records =
    bytes_as file.bytes ∙ ap (λ (l : List ℕ). records ++ l) (take_all file.through [] (omega arith))
    ∙ append-nil records in
    sym (take_all a.len (bytes_of (main a.id) t.image) (omega (arith, file.known, ap length bytes)))

synced_here : (new : Told) (a : ActiveFile) (books : Books) (settled recent : List Write)
    → Core new.image new.fronts (added (main a.id) recent books) (Some a) settled [] []
    → synced_of new.fronts (main a.id) ≡ Some (records_of (books (main a.id) ++ recent))
synced_here new a books settled recent core =
    synced_as core.has_active.is
    ∙ ap Some (core.has_active.synced ∙ ap records_of (added_here (main a.id) recent books))

module _ {J : Shape → Type 0} {old new : Told} {a : ActiveFile} {last : ℕ} {log : List Write}
    {kept : ℕ} {tried : List Write} where
  pub holds_cut : Holds J old (Some a) last log kept tried → Cut (main a.id) a.len old new
      → Holds J new (Some a) last log kept tried
  holds_cut h b =
      let one = one_cut (main a.id) a.len _ old new h.core.has_active.bytes b in
      record {
        books = h.books;
        settled = h.settled;
        recent = h.recent;
        split = h.split;
        kept_safe = h.kept_safe;
        well = well_cut (main a.id) a.len old new b h.well;
        within = h.within;
        free = free_touched a.id last old new h.within one.others h.free;
        core = cut_back old new h.books a h.settled h.recent tried h.core b;
        job =
            subst
            (λ (fronts : Table Front). J (shape_of fronts (Some a) last h.books h.settled log))
            (sym b.fronts) h.job;
      }

  pub cut_after : Holds J old (Some a) last log kept tried → Cut (main a.id) a.len old new
      → IsCut a new
  cut_after h b =
      let one = one_cut (main a.id) a.len _ old new h.core.has_active.bytes b in
      bytes_as one.image ∙ sym (take-take a.len a.len _ (omega arith))
      ∙ sym (ap (take a.len) (bytes_as one.image))

  syncs_of : (h : Holds J old (Some a) last log kept tried)
      → Core new.image new.fronts (added (main a.id) h.recent h.books) (Some a)
      (h.settled ++ h.recent) [] []
      → SameBut (main a.id) old new
      → Syncs (shape_of old.fronts (Some a) last h.books h.settled log) a.id h.recent
      (synced_of new.fronts)
  syncs_of h after others = record {
    active = refl;
    counts = h.core.has_active.counts;
    reads = synced_here new a h.books (h.settled ++ h.recent) h.recent after;
    others = synced_others (main a.id) old new others;
    split = h.split;
    rises = holds_rises h;
    within = λ n w counts is_in. h.core.safe.within w (h.core.safe.recovers.all n w counts is_in);
  }

  -- A sync leaves the whole log to no crash.
  pub holds_synced : Lasts J → Holds J old (Some a) last log kept tried → IsCut a old
      → Synced (main a.id) old new → Holds J new (Some a) last log (length log) []
  holds_synced lasts h cut b =
      let file = h.core.has_active in
      let one = one_synced (main a.id) _ file.front old new file.bytes file.is b in
      let after = settle old new h.books a h.settled h.recent tried h.core cut b in
      let v = shape_of old.fronts (Some a) last h.books h.settled log in
      let s = synced_of new.fronts in
      let books = added (main a.id) h.recent h.books in
      let lent = lent_as old.fronts new.fronts (main a.id) file.front _ file.is one.front refl in
      record {
        books = books;
        settled = h.settled ++ h.recent;
        recent = [];
        split = h.split ∙ sym (append-nil (h.settled ++ h.recent));
        kept_safe = omega (arith, ap length h.split);
        well = well_synced (main a.id) old new b h.well;
        within = h.within;
        free = free_touched a.id last old new h.within one.others h.free;
        core = after;
        job = same_lent J (record v { reading = s; books = books; settled = h.settled ++ h.recent })
            (lent_in new.fronts) (lent_all (main a.id) old new lent one.others)
            (lasts.syncs v a.id h.recent s (syncs_of h after one.others) h.job);
      }
