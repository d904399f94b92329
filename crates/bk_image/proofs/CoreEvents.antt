-- What a store's own calls do to what its files hold of the log.
use Rattle.std.proofs.Common.{◌≡◌, ℕ, zero, suc, max, ◌+◌, ◌≤◌, true, false, List, [], ◌∷◌, ◌++◌}
use Rattle.std.proofs.Common.{length, take, drop, Option, Some, None, refl, sym, ap, subst, ◌∙◌}
use Rattle.std.proofs.Common.{append_assoc, arith, inl, inr}
use Rattle.std.specs.Option.{option_map, unwrap_or, is_some}
use Rattle.std.specs.List.{AllByRecursion}
use Rattle.std.proofs.lemmas.Bool.{cases_Bool}
use Rattle.std.proofs.lemmas.List.{append-nil, take_all, take_at, length-append}
use Rattle.bk_base.specs.declared.names.Name.{Name}
use Rattle.bk_base.specs.declared.writes.Write.{Write}
use Rattle.bk_laws.specs.Log.{IsLog}
use Rattle.bk_laws.specs.Record.{AreRecords, IsWritable, record_of, records_of}
use Rattle.bk_disk.specs.Told.{Front, Image, Table, Told, IsWell, at, bytes_of, with_name}
use Rattle.bk_disk.specs.Calls.{Appended, Synced, Cut, Made, fresh, pending_more, all_synced}
use Rattle.bk_disk.proofs.Names.{same_refl}
use Rattle.bk_disk.proofs.Files.{there_in_both}
use Rattle.bk_disk.proofs.Frames.{made_frame}
use Rattle.bk_image.specs.Readings.{Books, Reading, added, bytes_in, hint, main, placed, synced_of}
use Rattle.bk_image.specs.CountedFiles.{Counts, IsInput, IsOutput, SamePlaces}
use Rattle.bk_image.specs.RecoveredLog.{Safe}
use Rattle.bk_image.specs.Core.{ActiveFile, Core, IsActiveFile, IsSettledAt, IsOther, RestsAt}
use Rattle.bk_image.proofs.Chances.{all_records, fit-append, fit-left, records_of-append}
use Rattle.bk_image.proofs.Chances.{some_bytes}
use Rattle.bk_image.proofs.CoreFrames.{core_touched, hint_apart, lent_stay, lists_stayed}
use Rattle.bk_image.proofs.CoreFrames.{others_stay, parted, settled_front, synced_others}
use Rattle.bk_image.proofs.CoreFrames.{synced_same}
use Rattle.bk_image.proofs.OneName.{SameBut, by_name, none_of, one_appended, one_cut, one_kept}
use Rattle.bk_image.proofs.OneName.{one_made, one_synced, some_of}
use Rattle.bk_image.proofs.Logs.{rises-front}
use Rattle.bk_image.proofs.Places.{counts_same, input_kept, output_kept, places_written}
use Rattle.bk_image.proofs.SafeFiles.{AllBut, safe_new}
use Rattle.bk_image.proofs.SafeSteps.{safe_more}

-- the active file with more known bytes
abbrev pub grown_by : ℕ → ActiveFile → ActiveFile
grown_by size a = record { id = a.id; len = a.len + size }

-- ---- lists and names

both_none : (xs ys : List Write) → xs ++ ys ≡ [] → (xs ≡ []) × (ys ≡ [])
both_none [] ys none = (refl, none)
both_none (x ∷ xs) ys none = absurd (cc none)

-- ---- appends

take_none : (n : ℕ) → take n (records_of []) ≡ []
take_none zero = refl
take_none (suc n) = refl

nothing_behind : (here : List ℕ) (n : ℕ) → here ++ take n (records_of []) ≡ here
nothing_behind here n = ap (λ (t : List ℕ). here ++ t) (take_none n) ∙ append-nil here

-- where nothing was handed the file is no longer than its synced bytes
append_rests : (a : ActiveFile) (books : Books) (recent more : List Write) (count : ℕ)
    (piece : List ℕ) (f : Front)
    → piece ≡ records_of more → f.synced ≡ records_of (books (main a.id))
    → (recent ++ [] ≡ [] → f.longest ≤ length f.synced) → recent ++ more ≡ []
    → max f.longest (length (records_of (books (main a.id) ++ recent) ++ take count piece)) ≤ length
    f.synced
append_rests a books recent more count piece f is synced rest none =
    let both = both_none recent more none in
    let was = rest (append-nil recent ∙ both.0) in
    let empty : piece ≡ [] = is ∙ ap records_of both.1 in
    let here : records_of (books (main a.id) ++ recent) ++ take count piece ≡ f.synced =
    ap (λ (ws : List Write). records_of (books (main a.id) ++ ws) ++ take count piece) both.0
    ∙ ap (λ (t : List ℕ). records_of (books (main a.id) ++ []) ++ take count t) empty
    ∙ nothing_behind (records_of (books (main a.id) ++ [])) count
    ∙ ap records_of (append-nil (books (main a.id))) ∙ sym synced in
    omega (arith, was, ap length here)

-- an append of records, as far as it got
pub append_part : (old new : Told) (books : Books) (a : ActiveFile)
    (settled recent more : List Write) (count : ℕ) (piece : List ℕ)
    → Core old.image old.fronts books (Some a) settled recent []
    → AllByRecursion IsWritable more → IsLog (settled ++ (recent ++ more)) → piece ≡ records_of more
    → Appended (main a.id) count piece old new
    → Core new.image new.fronts books (Some a) settled recent more
append_part old new books a settled recent more count piece core fit rises is b =
    let act : IsActiveFile a old.image old.fronts books recent [] = core.has_active in
    let here : List ℕ = records_of (books (main a.id) ++ recent) in
    let bytes : at old.image (main a.id) ≡ Some here = act.bytes
    ∙ ap Some (nothing_behind here act.through) in
    let one = one_appended (main a.id) count piece here act.front old new bytes act.is b in
    let g : Front = pending_more (length (here ++ take count piece)) piece act.front in
    let reads : synced_of old.fronts ≡ synced_of new.fronts =
    synced_same (main a.id) act.front g old new act.is one.front refl one.others in
    record {
      safe = subst (λ (r : Reading). Safe r books settled) reads core.safe;
      rises = rises;
      fit = fit-append recent more (fit-left recent [] core.fit) fit;
      has_active = record {
        front = g;
        is = one.front;
        ours = act.ours;
        counts = subst (λ (r : Reading). Counts r (main a.id)) reads act.counts;
        no_hint = (one.others (hint a.id) (hint_apart a.id a.id)).front ∙ act.no_hint;
        synced = act.synced;
        pending = ap (λ (t : List ℕ). t ++ piece) (act.pending ∙ ap records_of (append-nil recent))
            ∙ ap (λ (t : List ℕ). records_of recent ++ t) is ∙ sym (records_of-append recent more);
        rest = append_rests a books recent more count piece act.front is act.synced act.rest;
        known = act.known;
        through = count;
        bytes = one.image ∙ ap (λ (t : List ℕ). Some (here ++ take count t)) is;
      };
      others = others_stay (main a.id) old new core.others one.others;
      lent = lent_stay (main a.id) g old new one.front act.ours one.others
          (λ id out. subst (λ (r : Reading). IsOutput r id) (sym reads) out) core.lent;
    }

-- what was tried stands whole behind the known bytes: it is part of the log
went_through : (t : Told) (books : Books) (a : ActiveFile) (settled recent more : List Write)
    (size : ℕ)
    → Core t.image t.fronts books (Some a) settled recent more
    → at t.image (main a.id) ≡ Some (records_of (books (main a.id) ++ recent) ++ records_of more)
    → size ≡ length (records_of more)
    → Core t.image t.fronts books (Some (grown_by size a)) settled (recent ++ more) []
went_through t books a settled recent more size core bytes is =
    let act : IsActiveFile a t.image t.fronts books recent more = core.has_active in
    let book : List Write = books (main a.id) in
    let last : (recent ++ more) ++ [] ≡ recent ++ more = append-nil (recent ++ more) in
    let joined : records_of (book ++ recent) ++ records_of more
    ≡ records_of (book ++ (recent ++ more)) =
    sym (records_of-append (book ++ recent) more) ∙ ap records_of (append_assoc book recent more) in
    record {
      safe = core.safe;
      rises = subst (λ (ws : List Write). IsLog (settled ++ ws)) (sym last) core.rises;
      fit = subst (λ (ws : List Write). AllByRecursion IsWritable ws) (sym last) core.fit;
      has_active = record {
        front = act.front;
        is = act.is;
        ours = act.ours;
        counts = act.counts;
        no_hint = act.no_hint;
        synced = act.synced;
        pending = act.pending ∙ ap records_of (sym last);
        rest = λ none. act.rest (sym last ∙ none);
        known = omega (
          arith,
          act.known,
          is,
          ap length joined,
          length-append (records_of (book ++ recent)) (records_of more),
        );
        through = 0;
        bytes = bytes ∙ ap Some
            (joined ∙ sym (nothing_behind (records_of (book ++ (recent ++ more))) 0));
      };
      others = core.others;
      lent = core.lent;
    }

-- one that went through
pub append_whole : (old new : Told) (books : Books) (a : ActiveFile)
    (settled recent more : List Write) (piece : List ℕ)
    → Core old.image old.fronts books (Some a) settled recent []
    → AllByRecursion IsWritable more → IsLog (settled ++ (recent ++ more)) → piece ≡ records_of more
    → Appended (main a.id) (length piece) piece old new
    → Core new.image new.fronts books (Some (grown_by (length piece) a)) settled (recent ++ more) []
append_whole old new books a settled recent more piece core fit rises is b =
    let act : IsActiveFile a old.image old.fronts books recent [] = core.has_active in
    let here : List ℕ = records_of (books (main a.id) ++ recent) in
    let was : at old.image (main a.id) ≡ Some here = act.bytes
    ∙ ap Some (nothing_behind here act.through) in
    let one = one_appended (main a.id) (length piece) piece here act.front old new was act.is b in
    let all : take (length piece) piece ≡ piece = take_all (length piece) piece (omega arith) in
    went_through new books a settled recent more (length piece)
    (append_part old new books a settled recent more (length piece) piece core fit rises is b)
    (one.image ∙ ap (λ (t : List ℕ). Some (here ++ t)) (all ∙ is)) (ap length is)

-- ---- the mend of a failed append: the cut changes nothing that a crash sees, and the sync settles all

pub cut_back : (old new : Told) (books : Books) (a : ActiveFile) (settled recent tried : List Write)
    → Core old.image old.fronts books (Some a) settled recent tried → Cut (main a.id) a.len old new
    → Core new.image new.fronts books (Some a) settled recent tried
cut_back old new books a settled recent tried core b =
    let act : IsActiveFile a old.image old.fronts books recent tried = core.has_active in
    let here : List ℕ = records_of (books (main a.id) ++ recent) in
    let one = one_cut (main a.id) a.len (here ++ take act.through
    (records_of tried)) old new act.bytes b in
    let cut : take a.len (here ++ take act.through (records_of tried))
    ≡ here ++ take 0 (records_of tried) =
    take_at here (take act.through (records_of tried)) a.len (sym act.known)
    ∙ sym (append-nil here) in
    let over_old : Core new.image old.fronts books (Some a) settled recent tried = record {
      safe = core.safe;
      rises = core.rises;
      fit = core.fit;
      has_active = record {
        front = act.front;
        is = act.is;
        ours = act.ours;
        counts = act.counts;
        no_hint = act.no_hint;
        synced = act.synced;
        pending = act.pending;
        rest = act.rest;
        known = act.known;
        through = 0;
        bytes = one.image ∙ ap Some cut;
      };
      others = λ m other. let stays = one.others m other in rw stays.image (core.others m other);
      lent = core.lent;
    } in
    subst (λ (fronts : Table Front). Core new.image fronts books (Some a) settled recent tried)
    (sym b.fronts) over_old

-- where the file reads as its known bytes it has all records and no more
reads_known : (a : ActiveFile) (image : Image) (here behind : List ℕ)
    → at image (main a.id) ≡ Some (here ++ behind)
    → a.len ≡ length here → bytes_of (main a.id) image ≡ take a.len (bytes_of (main a.id) image)
    → at image (main a.id) ≡ Some here
reads_known a image here behind is known whole =
    let bytes : bytes_of (main a.id) image ≡ here ++ behind =
    ap (λ (o : Option (List ℕ)). unwrap_or o []) is in
    is ∙ ap Some (sym bytes ∙ whole ∙ ap (take a.len) bytes ∙ take_at here behind a.len (sym known))

-- a sync while nothing stands behind the known bytes
pub settle : (old new : Told) (books : Books) (a : ActiveFile) (settled recent tried : List Write)
    → Core old.image old.fronts books (Some a) settled recent tried
    → bytes_of (main a.id) old.image ≡ take a.len (bytes_of (main a.id) old.image)
    → Synced (main a.id) old new
    → Core new.image new.fronts (added (main a.id) recent books) (Some a) (settled ++ recent) [] []
settle old new books a settled recent tried core whole b =
    let act : IsActiveFile a old.image old.fronts books recent tried = core.has_active in
    let here : List ℕ = records_of (books (main a.id) ++ recent) in
    let bytes : at old.image (main a.id) ≡ Some here =
    reads_known a old.image here (take act.through (records_of tried)) act.bytes act.known whole in
    let one = one_synced (main a.id) here act.front old new bytes act.is b in
    let g : Front = all_synced here act.front in
    let r : Reading = synced_of old.fronts in
    let s : Reading = synced_of new.fronts in
    let others : AllBut (main a.id) r s = synced_others (main a.id) old new one.others in
    let was : r (main a.id) ≡ Some act.front.synced =
    ap (option_map (λ (f : Front). f.synced)) act.is in
    let now : s (main a.id) ≡ Some here = ap (option_map (λ (f : Front). f.synced)) one.front in
    let places : SamePlaces r s = places_written r s a.id (rw (was, now) refl) others in
    let fit : AllByRecursion IsWritable (books (main a.id) ++ recent) =
    fit-append (books (main a.id)) recent (core.safe.recovers.reads (main a.id) act.counts).fit
    (fit-left recent tried core.fit) in
    let are : AreRecords (bytes_in s (main a.id)) (books (main a.id) ++ recent) =
    rw now (all_records (books (main a.id) ++ recent) fit) in
    let rises : IsLog (settled ++ recent) =
    rises-front 0 (settled ++ recent) tried
    (subst IsLog (sym (append_assoc settled recent tried)) core.rises) in
    let book : added (main a.id) recent books (main a.id) ≡ books (main a.id) ++ recent =
    rw (same_refl (main a.id)) refl in
    record {
      safe = safe_more r s books settled recent a.id
          (record {
            counts = act.counts;
            no_hint = ap (option_map (λ (f : Front). f.synced)) act.no_hint;
            there = ap is_some now;
            reads = are;
            others = others;
          }) rises core.safe;
      rises = subst IsLog (sym (append-nil (settled ++ recent))) rises;
      fit = tt;
      has_active = record {
        front = g;
        is = one.front;
        ours = act.ours;
        counts = counts_same r s (main a.id) places act.counts;
        no_hint = (one.others (hint a.id) (hint_apart a.id a.id)).front ∙ act.no_hint;
        synced = ap records_of (sym book);
        pending = refl;
        rest = λ _. omega arith;
        known = act.known ∙ ap (λ (ws : List Write). length (records_of ws))
            (sym book ∙ sym (append-nil (added (main a.id) recent books (main a.id))));
        through = 0;
        bytes = one.image ∙ ap Some (ap records_of (sym book
            ∙ sym (append-nil (added (main a.id) recent books (main a.id))))
            ∙ sym (append-nil (records_of (added (main a.id) recent books (main a.id) ++ []))));
      };
      others = others_stay (main a.id) old new core.others one.others;
      lent = lent_stay (main a.id) g old new one.front act.ours one.others
          (λ id out. output_kept s r id (lists_stayed a.id r s others) out) core.lent;
    }

-- ---- the active file goes, and another comes

-- a settled active file is a file as any other
pub close : (image : Image) (fronts : Table Front) (books : Books) (active : Option ActiveFile)
    (settled recent tried : List Write)
    → Core image fronts books active settled recent tried → recent ++ tried ≡ []
    → Core image fronts books None settled recent tried
close image fronts books None settled recent tried core settled_all = core
close image fronts books (Some a) settled recent tried core settled_all =
    let act : IsActiveFile a image fronts books recent tried = core.has_active in
    let both = both_none recent tried settled_all in
    let reads : at image (main a.id) ≡ Some act.front.synced =
    act.bytes
    ∙ ap (λ (ws : List Write). Some (records_of (books (main a.id) ++ ws) ++ take act.through
    (records_of tried))) both.0
    ∙ ap (λ (ws : List Write). Some (records_of (books (main a.id) ++ []) ++ take act.through
    (records_of ws))) both.1
    ∙ ap Some (nothing_behind (records_of (books (main a.id) ++ [])) act.through
    ∙ ap records_of (append-nil (books (main a.id))) ∙ sym act.synced) in
    let rests : RestsAt (at image (main a.id)) (at fronts (main a.id)) = rw act.is (record {
      there = rw reads refl;
      reads = λ _. reads;
      whole = λ _. act.rest settled_all;
      nothing_pending = λ _. act.pending ∙ ap records_of settled_all;
    }) in
    record {
      safe = core.safe;
      rises = core.rises;
      fit = core.fit;
      has_active = settled_all;
      others = λ m _. by_name (λ k. RestsAt (at image k) (at fronts k))
          (main a.id) rests core.others m;
      lent = core.lent;
    }

-- A new data file that no list names, or one that stood there empty. It counts, and holds nothing.
pub record IsNew (id : ℕ) (active : Option ActiveFile) (t : Told) : Type 0 where
  pub first : 1 ≤ id
  pub other : IsOther active (main id)
  pub empty : bytes_of (main id) t.image ≡ []
  pub ours : (f : Front) → at t.fronts (main id) ≡ Some f → f.lent ≡ false
  pub no_hint : at t.fronts (hint id) ≡ None
  pub no_input : IsInput (synced_of t.fronts) id → ⊥
  pub no_output : IsOutput (synced_of t.fronts) id → ⊥

no_records : (ws : List Write) → AreRecords [] ws → ws ≡ []
no_records [] are = refl
no_records (w ∷ ws) are =
    absurd (omega (
      arith,
      ap length are.held,
      length-append (records_of (w ∷ ws)) (drop (length (records_of (w ∷ ws))) []),
      length-append (record_of w) (records_of ws),
      some_bytes w,
    ))

-- the new file, as it stood there before
record StoodEmpty (id : ℕ) (books : Books) (t : Told) : Type 0 where
  front : Front
  is : at t.fronts (main id) ≡ Some front
  ours : front.lent ≡ false
  empty : front.synced ≡ []
  book : books (main id) ≡ []

stood_empty : (t : Told) (books : Books) (active : Option ActiveFile)
    (settled recent tried : List Write) (id : ℕ)
    → IsWell t → Core t.image t.fronts books active settled recent tried → IsNew id active t
    → is_some (at t.image (main id)) ≡ true → StoodEmpty id books t
stood_empty t books active settled recent tried id well core is_new there =
    let (front, is) = some_of (at t.fronts (main id)) (there_in_both t (main id) well ∙ there) in
    let ours : front.lent ≡ false = is_new.ours front is in
    let rests : IsSettledAt (at t.image (main id)) front =
    subst (λ (o : Option Front). RestsAt (at t.image (main id)) o) is
    (core.others (main id) is_new.other) in
    let empty : front.synced ≡ [] = ap (λ (o : Option (List ℕ)). unwrap_or o [])
    (sym (rests.reads ours)) ∙ is_new.empty in
    let reads : synced_of t.fronts (main id) ≡ Some [] =
    ap (option_map (λ (f : Front). f.synced)) is ∙ ap Some empty in
    let counts : Counts (synced_of t.fronts) (main id) =
    (ap is_some reads, is_new.no_input, is_new.first) in
    let are : AreRecords [] (books (main id)) =
    subst (λ (o : Option (List ℕ)). AreRecords (unwrap_or o []) (books (main id))) reads
    (core.safe.recovers.reads (main id) counts) in
    record {
      front = front;
      is = is;
      ours = ours;
      empty = empty;
      book = no_records (books (main id)) are;
    }

placed_same : (n : Name) (books : Books) → books n ≡ [] → (m : Name) → books m ≡ placed n [] books m
placed_same n books empty m =
    by_name (λ k. books k ≡ placed n [] books k) n (rw (same_refl n) empty)
    (λ k other. rw other refl) m

-- what was there stays
kept_there : {X : Type 0} (n : Name) (x : X) (t : Table X) → is_some (at t n) ≡ true
    → t ≡ with_name n x t
kept_there n x t there = rw there refl

new_kept : (old new : Told) (books : Books) (active : Option ActiveFile)
    (settled recent tried : List Write) (id : ℕ)
    → IsWell old → Core old.image old.fronts books active settled recent tried → IsNew id active old
    → Made (main id) false old new → is_some (at old.image (main id)) ≡ true
    → Core new.image new.fronts (placed (main id) [] books) active settled recent tried
new_kept old new books active settled recent tried id well core is_new b there =
    let stood = stood_empty old books active settled recent tried id well core is_new there in
    let image : old.image ≡ new.image = kept_there (main id) [] old.image there ∙ sym b.image in
    let front_there : is_some (at old.fronts (main id)) ≡ true = there_in_both old (main id) well
    ∙ there in
    let fronts : old.fronts ≡ new.fronts = kept_there (main id) (fresh false) old.fronts front_there
    ∙ sym b.fronts in
    let same : books ≡ placed (main id) [] books =
    λ i m. placed_same (main id) books stood.book m i in
    subst (λ (im : Image). Core im new.fronts (placed
    (main id) [] books) active settled recent tried) image
    (subst (λ (fs : Table Front). Core old.image fs
    (placed (main id) [] books) active settled recent tried) fronts
    (subst (λ (bs : Books). Core old.image old.fronts bs active settled recent tried) same core))

new_made : (old new : Told) (books : Books) (active : Option ActiveFile)
    (settled recent tried : List Write) (id : ℕ)
    → IsWell old → Core old.image old.fronts books active settled recent tried → IsNew id active old
    → Made (main id) false old new → is_some (at old.image (main id)) ≡ false
    → Core new.image new.fronts (placed (main id) [] books) active settled recent tried
new_made old new books active settled recent tried id well core is_new b absent =
    let one = one_made (main id) false old new well absent b in
    let r : Reading = synced_of old.fronts in
    let s : Reading = synced_of new.fronts in
    let others : AllBut (main id) r s = synced_others (main id) old new one.others in
    let now : s (main id) ≡ Some [] = ap (option_map (λ (f : Front). f.synced)) one.front in
    let no_front : at old.fronts (main id) ≡ None =
    none_of (at old.fronts (main id)) (there_in_both old (main id) well ∙ absent) in
    let before : bytes_in r (main id) ≡ [] = rw no_front refl in
    core_touched (main id) core one.others
    (record {
      other = is_new.other;
      rests = rw (one.image, one.front) (settled_front (fresh false) (omega arith) refl);
      safe = safe_new r s books settled id
          (record {
            was_empty = before;
            no_input = is_new.no_input;
            no_output = is_new.no_output;
            reads = now;
            others = others;
          }) core.safe;
      loose = lent_stay (main id) (fresh false) old new one.front refl one.others
          (λ k out. output_kept s r k (lists_stayed id r s others) out) core.lent;
      counts = λ a is counts. (
        ap is_some (others (main a.id) (parted active (main id) is_new.other a is)) ∙ counts.0,
        λ input. counts.1 (input_kept s r a.id (lists_stayed id r s others) input),
        counts.2,
      );
      no_hint = λ a is none. (one.others (hint a.id) (hint_apart a.id id)).front ∙ none;
      book = λ a is. rw (parted active (main id) is_new.other a is) refl;
    })

pub core_new : (old new : Told) (books : Books) (active : Option ActiveFile)
    (settled recent tried : List Write) (id : ℕ)
    → IsWell old → Core old.image old.fronts books active settled recent tried → IsNew id active old
    → Made (main id) false old new
    → Core new.image new.fronts (placed (main id) [] books) active settled recent tried
core_new old new books active settled recent tried id well core is_new b =
    elim (cases_Bool (is_some (at old.image (main id)))) [
      | inl there ↦ new_kept old new books active settled recent tried id well core is_new b there
      | inr absent ↦ new_made old new books active settled recent tried id well core is_new b absent
    ]

-- a settled file with records alone, and without a hint, becomes the active one
pub record CanOpen (id : ℕ) (books : Books) (fronts : Table Front) : Type 0 where
  pub front : Front
  pub is : at fronts (main id) ≡ Some front
  pub ours : front.lent ≡ false
  pub counts : Counts (synced_of fronts) (main id)
  pub no_hint : at fronts (hint id) ≡ None
  pub synced : front.synced ≡ records_of (books (main id))

pub core_opened : (image : Image) (fronts : Table Front) (books : Books) (settled : List Write)
    (a : ActiveFile)
    → Core image fronts books None settled [] [] → CanOpen a.id books fronts
    → a.len ≡ length (records_of (books (main a.id)))
    → Core image fronts books (Some a) settled [] []
core_opened image fronts books settled a core can whole =
    let rests : IsSettledAt (at image (main a.id)) can.front =
    subst (λ (o : Option Front). RestsAt (at image (main a.id)) o) can.is
    (core.others (main a.id) tt) in
    let book : List Write = books (main a.id) in
    record {
      safe = core.safe;
      rises = core.rises;
      fit = tt;
      has_active = record {
        front = can.front;
        is = can.is;
        ours = can.ours;
        counts = can.counts;
        no_hint = can.no_hint;
        synced = can.synced;
        pending = rests.nothing_pending can.ours;
        rest = λ _. rests.whole can.ours;
        known = whole ∙ ap (λ (ws : List Write). length (records_of ws)) (sym (append-nil book));
        through = 0;
        bytes = rests.reads can.ours ∙ ap Some (can.synced ∙ ap records_of (sym (append-nil book))
            ∙ sym (append-nil (records_of (book ++ []))));
      };
      others = λ m _. core.others m tt;
      lent = core.lent;
    }

-- the new file, as it stands there now
new_opens : (old new : Told) (books : Books) (active : Option ActiveFile)
    (settled recent tried : List Write) (id : ℕ)
    → IsWell old → Core old.image old.fronts books active settled recent tried → IsNew id active old
    → Made (main id) false old new → (f : Front) × (at new.fronts (main id) ≡ Some f) ×
    (f.lent ≡ false) × (f.synced ≡ [])
new_opens old new books active settled recent tried id well core is_new b =
    elim (cases_Bool (is_some (at old.image (main id)))) [
      | inl there ↦
          let stood = stood_empty old books active settled recent tried id well core is_new there in
          let kept = one_kept (main id) false old new well there b in
          (stood.front, kept.front ∙ stood.is, stood.ours, stood.empty)
      | inr absent ↦ (
        fresh false,
        (one_made (main id) false old new well absent b).front,
        refl,
        refl,
      )
    ]

-- so does the new file, once the one before is settled
pub core_rolled : (old new : Told) (books : Books) (active : Option ActiveFile)
    (settled : List Write) (id : ℕ)
    → IsWell old → Core old.image old.fronts books active settled [] [] → IsNew id active old
    → Made (main id) false old new
    → Core new.image new.fronts (placed (main id) [] books)
    (Some (record { id = id; len = 0 })) settled [] []
core_rolled old new books active settled id well core is_new b =
    let now : Books = placed (main id) [] books in
    let book : now (main id) ≡ [] = rw (same_refl (main id)) refl in
    let (front, is, ours, empty) =
    new_opens old new books active settled [] [] id well core is_new b in
    let but : SameBut (main id) old new = λ m other. made_frame (main id) m false old new other b in
    let r : Reading = synced_of old.fronts in
    let s : Reading = synced_of new.fronts in
    let reads : s (main id) ≡ Some front.synced = ap (option_map (λ (f : Front). f.synced)) is in
    core_opened new.image new.fronts now settled (record { id = id; len = 0 })
    (close new.image new.fronts now active settled [] []
    (core_new old new books active settled [] [] id well core is_new b) refl)
    (record {
      front = front;
      is = is;
      ours = ours;
      counts = (
        ap is_some reads,
        λ input. is_new.no_input
            (input_kept s r id (lists_stayed id r s (synced_others (main id) old new but)) input),
        is_new.first,
      );
      no_hint = (but (hint id) (hint_apart id id)).front ∙ is_new.no_hint;
      synced = empty ∙ ap records_of (sym book);
    })
    (ap (λ (ws : List Write). length (records_of ws)) (sym book))
