-- What recovery, and the end of a merge, do to what the files hold of a log. The log stays: files get
-- their own names, and files go that don't count.
use Rattle.std.proofs.Common.{◌≡◌, ◌==◌, ℕ, true, false, List, [], Option, Some, None, refl}
use Rattle.std.proofs.Common.{sym, ap, subst, ◌∙◌, arith, inl, inr}
use Rattle.std.specs.Option.{IsSomeAnd, is_some, option_map, unwrap_or}
use Rattle.std.proofs.lemmas.Bool.{false_from_ne_true, cases_Bool, true≢false}
use Rattle.bk_base.specs.declared.names.Kind.{Kind}
use Rattle.bk_base.specs.declared.names.Kind.TheVariants.{Main, MainTemp, Hint, HintTemp, Swap}
use Rattle.bk_base.specs.declared.names.Kind.TheVariants.{SwapTemp, Settings}
use Rattle.bk_base.specs.declared.names.Name.{Name}
use Rattle.bk_base.specs.declared.writes.Write.{Write}
use Rattle.bk_laws.specs.SwapList.{SwapList}
use Rattle.bk_disk.specs.Names.{kind_number, same}
use Rattle.bk_disk.specs.Told.{Front, Image, IsOurs, IsWell, Table, Told, at}
use Rattle.bk_disk.specs.Calls.{Removed, Renamed, Synced, all_synced}
use Rattle.bk_disk.proofs.Files.{there_in_both}
use Rattle.bk_disk.proofs.Names.{same_eq}
use Rattle.bk_image.specs.Readings.{Books, In, IsThere, Reading, hint, main, main_temp, placed}
use Rattle.bk_image.specs.Readings.{swap, synced_of}
use Rattle.bk_image.specs.CountedFiles.{Counts, HasList, IsInput, IsOutput}
use Rattle.bk_image.specs.RecoveredLog.{Safe}
use Rattle.bk_image.specs.Core.{ActiveFile, Core, HasActive, IsOther, IsSettledAt, MayBeLent}
use Rattle.bk_image.specs.Core.{RestsAt, is_temporary}
use Rattle.bk_image.proofs.CoreFrames.{core_framed, core_touched, hint_apart, lent_stay, other_than}
use Rattle.bk_image.proofs.CoreFrames.{ours_by_count, parted, settled_front, still_no_hint}
use Rattle.bk_image.proofs.CoreFrames.{swap_apart, synced_others, synced_same, there_synced}
use Rattle.bk_image.proofs.OneName.{SameBut, by_name, one_removed, one_synced, two_renamed}
use Rattle.bk_image.proofs.Places.{input_kept, main_same, other_kind, output_kept}
use Rattle.bk_image.proofs.SafeDrops.{is_loose, safe_dropped_input, safe_dropped_temp}
use Rattle.bk_image.proofs.SafeDrops.{safe_hint_gone, safe_loose, safe_temporary}
use Rattle.bk_image.proofs.SafeFiles.{AllBut, beside, safe_settled, safe_unlisted}
use Rattle.bk_image.proofs.SafeMoves.{safe_moved}

our_front : (o : Option Front) → IsSomeAnd o (λ f. f.lent ≡ false)
    → (f : Front) × (o ≡ Some f) × (f.lent ≡ false)
our_front (Some f) ours = (f, refl, ours)
our_front None ours = absurd ours

-- no list comes by that
list_before : (n : Name) (r s : Reading) (l : SwapList) → s n ≡ None → AllBut n r s → HasList s l
    → HasList r l
list_before n r s l gone others has = record {
  id = has.id;
  bytes = has.bytes;
  there = by_name (λ m. s m ≡ Some has.bytes → r m ≡ Some has.bytes) n
      (λ is. let differ : None ≡ Some has.bytes = sym gone ∙ is in absurd (cc differ))
      (λ m other is. sym (others m other) ∙ is) (swap has.id) has.there;
  whole = has.whole;
}

input_before : (n : Name) (r s : Reading) (id : ℕ) → s n ≡ None → AllBut n r s → IsInput s id
    → IsInput r id
input_before n r s id gone others (l, has, is_in) = (l, list_before n r s l gone others has, is_in)

output_before : (n : Name) (r s : Reading) (id : ℕ) → s n ≡ None → AllBut n r s → IsOutput s id
    → IsOutput r id
output_before n r s id gone others (l, has, is_in) = (l, list_before n r s l gone others has, is_in)

-- what is said of the synced bytes after a removal
pub record IsGone (n : Name) (old new : Told) : Type 0 where
  pub gone : synced_of new.fronts n ≡ None
  pub others : AllBut n (synced_of old.fronts) (synced_of new.fronts)

pub removed_gone : (n : Name) (old new : Told) → IsWell old → Removed n old new → IsGone n old new
removed_gone n old new well b =
    let one = one_removed n old new well b in
    record {
      gone = ap (option_map (λ (f : Front). f.synced)) one.front;
      others = synced_others n old new one.others;
    }

-- a file of another kind than that of data files isn't the active one
pub other_by_kind : (active : Option ActiveFile) (n : Name)
    → (kind_number n.kind == kind_number Main) ≡ false → IsOther active n
other_by_kind active n differs = other_than active n (λ a. other_kind n (main a.id) differs)

-- an input of some list isn't, either: it doesn't count
input_other : (image : Image) (fronts : Table Front) (books : Books) (active : Option ActiveFile)
    (recent tried : List Write) (id : ℕ)
    → HasActive active image fronts books recent tried → IsInput (synced_of fronts) id
    → IsOther active (main id)
input_other image fronts books None recent tried id has input = tt
input_other image fronts books (Some a) recent tried id has input =
    elim (cases_Bool (same (main id) (main a.id))) [
      | inl p ↦ absurd (has.counts.1 (subst (λ (k : ℕ). IsInput (synced_of fronts) k)
          (main_same id a.id p) input))
      | inr p ↦ p
    ]

-- a temporary file of a hint or a list, or the settings: the log has no part in them
loose_other : (kind : Kind) → is_loose kind ≡ true → (kind_number kind == kind_number Main) ≡ false
loose_other HintTemp loose = refl
loose_other SwapTemp loose = refl
loose_other Settings loose = refl
loose_other kind loose = absurd (cc loose)

-- A swap list whose inputs are gone and whose outputs have their names, or are gone.
pub record IsDone (fronts : Table Front) (l : SwapList) : Type 0 where
  pub list : HasList (synced_of fronts) l
  pub no_main : (id : ℕ) → In id l.inputs → IsThere (synced_of fronts) (main id) → ⊥
  pub no_temp : (id : ℕ) → In id l.inputs → IsThere (synced_of fronts) (main_temp id) → ⊥
  pub named : (id : ℕ) → In id l.outputs → IsThere (synced_of fronts) (main_temp id)
      → IsThere (synced_of fronts) (main id)

safe_empty_gone : (r s : Reading) (books : Books) (log : List Write) (id : ℕ) → AllBut (main id) r s
    → s (main id) ≡ None
    → (IsOutput r id → ⊥) → (Counts r (main id) → books (main id) ≡ []) → Safe r books log
    → Safe s books log
safe_empty_gone r s books log id others gone unlisted empty safe =
    let back : AllBut (main id) s r = λ m other. sym (others m other) in
    let unlisted_now : IsOutput s id → ⊥ = λ out. unlisted
    (output_before (main id) r s id gone others out) in
    let far : (n : Name) → Counts s n → same n (main id) ≡ false = λ n c.
    elim (cases_Bool (same n (main id))) [
      | inl p ↦
          let here : Counts s (main id) = subst (λ (k : Name). Counts s k)
          (same_eq n (main id) p) c in
          absurd (true≢false (sym here.0 ∙ ap is_some gone))
      | inr p ↦ p
    ] in
    safe_moved r s books books (λ n. n) log
    (record {
      came = λ n c. inl (record {
        was = beside id s r n back unlisted (far n c) c;
        bytes = ap (λ (o : Option (List ℕ)). unwrap_or o []) (others n (far n c));
        book = refl;
        hints = λ b is. inl (sym (others (hint n.id) (hint_apart n.id id)) ∙ is);
      });
      one = λ n k c d is. is;
      stays = λ m w c is_in.
          elim (cases_Bool (same m (main id))) [
            | inl p ↦
                let here : m ≡ main id = same_eq m (main id) p in
                let none : books (main id) ≡ [] = empty (subst (λ (k : Name). Counts r k) here c) in
                absurd (subst (λ (ws : List Write). In w ws) (ap books here ∙ none) is_in)
            | inr p ↦ (m, beside id r s m others unlisted_now p c, is_in)
          ];
    }) safe

-- its kind is none of those that count
record IsApart (kind : Kind) : Type 0 where
  main_apart : (kind_number kind == kind_number Main) ≡ false
  swap_apart_from : (kind_number Swap == kind_number kind) ≡ false
  hint_apart_from : (kind_number Hint == kind_number kind) ≡ false

temporary_apart : (kind : Kind) → is_temporary kind ≡ true → IsApart kind
temporary_apart MainTemp temporary = record {
  main_apart = refl;
  swap_apart_from = refl;
  hint_apart_from = refl;
}
temporary_apart HintTemp temporary = record {
  main_apart = refl;
  swap_apart_from = refl;
  hint_apart_from = refl;
}
temporary_apart SwapTemp temporary = record {
  main_apart = refl;
  swap_apart_from = refl;
  hint_apart_from = refl;
}
temporary_apart kind temporary = absurd (cc temporary)

safe_temporary_by : (r s : Reading) (books : Books) (log : List Write) (kind : Kind) (id : ℕ)
    → is_temporary kind ≡ true
    → AllBut (record { id = id; kind = kind }) r s → (kind ≡ MainTemp → IsOutput r id → ⊥)
    → (kind ≡ MainTemp → IsOutput s id → ⊥)
    → Safe r books log → Safe s books log
safe_temporary_by r s books log MainTemp id temporary others before now safe =
    safe_temporary r s books log id others (λ c. before refl c.1) (λ c. now refl c.1) safe
safe_temporary_by r s books log HintTemp id temporary others before now safe =
    safe_loose r s books log (record { id = id; kind = HintTemp }) refl others safe
safe_temporary_by r s books log SwapTemp id temporary others before now safe =
    safe_loose r s books log (record { id = id; kind = SwapTemp }) refl others safe
safe_temporary_by r s books log kind id temporary others before now safe = absurd (cc temporary)

-- the output's name isn't that of the active file, which is there
output_other : (image : Image) (fronts : Table Front) (books : Books) (active : Option ActiveFile)
    (recent tried : List Write) (id : ℕ)
    → HasActive active image fronts books recent tried → (IsThere (synced_of fronts) (main id) → ⊥)
    → IsOther active (main id)
output_other image fronts books None recent tried id has absent = tt
output_other image fronts books (Some a) recent tried id has absent =
    elim (cases_Bool (same (main id) (main a.id))) [
      | inl p ↦ absurd (absent (subst (λ (n : Name). IsThere (synced_of fronts) n)
          (sym (same_eq (main id) (main a.id) p)) has.counts.0))
      | inr p ↦ p
    ]

-- ---- what the steps of recovery leave

module _ {old new : Told} {books : Books} {active : Option ActiveFile}
    {settled recent tried : List Write} where
  -- ---- a sync of a file that rests already

  pub core_synced_rest : (n : Name)
      → Core old.image old.fronts books active settled recent tried → IsOther active n
      → IsOurs n old
      → Synced n old new
      → Core new.image new.fronts books active settled recent tried
  core_synced_rest n core other there b =
      let (f, is, ours) = our_front (at old.fronts n) there.1 in
      let rests : IsSettledAt (at old.image n) f =
      subst (λ (o : Option Front). RestsAt (at old.image n) o) is (core.others n other) in
      let one = one_synced n f.synced f old new (rests.reads ours) is b in
      let g : Front = all_synced f.synced f in
      let reads : synced_of old.fronts ≡ synced_of new.fronts =
      synced_same n f g old new is one.front refl one.others in
      core_touched n core one.others
      (record {
        other = other;
        rests = rw (one.image, one.front) (settled_front g (omega arith) refl);
        safe = subst (λ (r : Reading). Safe r books settled) reads core.safe;
        loose = lent_stay n g old new one.front ours one.others
            (λ id out. subst (λ (r : Reading). IsOutput r id) (sym reads) out) core.lent;
        counts = λ a _ counts. subst (λ (r : Reading). Counts r (main a.id)) reads counts;
        no_hint = λ a _ none. still_no_hint n a.id old new one.others
            (λ p.
            let here : at old.fronts n ≡ None = subst (λ (k : Name). at old.fronts k ≡ None)
            (same_eq (hint a.id) n p) none in
            let differ : None ≡ Some f = sym here ∙ is in
            absurd (cc differ)) none;
        book = λ a _. refl;
      })

  -- ---- a file goes

  -- any file but the active one, where the synced bytes of the others still hold the settled writes
  pub core_removed : (n : Name)
      → IsWell old → Core old.image old.fronts books active settled recent tried → IsOther active n
      → Removed n old new
      → Safe (synced_of new.fronts) books settled
      → Core new.image new.fronts books active settled recent tried
  core_removed n well core other b safe =
      let one = one_removed n old new well b in
      let r : Reading = synced_of old.fronts in
      let s : Reading = synced_of new.fronts in
      let others : AllBut n r s = synced_others n old new one.others in
      let gone : s n ≡ None = ap (option_map (λ (f : Front). f.synced)) one.front in
      core_touched n core one.others
      (record {
        other = other;
        rests = rw (one.image, one.front) refl;
        safe = safe;
        loose = λ m f is lends.
            let was : at old.fronts m ≡ Some f =
            by_name (λ k. at new.fronts k ≡ Some f → at old.fronts k ≡ Some f) n
            (λ here. let differ : None ≡ Some f = sym one.front ∙ here in absurd (cc differ))
            (λ k apart here. sym (one.others k apart).front ∙ here) m is in
            let may = core.lent m f was lends in
            record {
              temporary = may.temporary;
              unlisted = λ kind out. may.unlisted kind (output_before n r s m.id gone others out);
            };
        counts = λ a is counts. (
          ap is_some (others (main a.id) (parted active n other a is)) ∙ counts.0,
          λ input. counts.1 (input_before n r s a.id gone others input),
          counts.2,
        );
        no_hint = λ a _ none. still_no_hint n a.id old new one.others (λ _. one.front) none;
        book = λ a _. refl;
      })

  pub core_input_gone : (id : ℕ)
      → IsWell old → Core old.image old.fronts books active settled recent tried
      → IsInput (synced_of old.fronts) id
      → Removed (main id) old new
      → Core new.image new.fronts books active settled recent tried
  core_input_gone id well core input b =
      core_removed (main id) well core
      (input_other old.image old.fronts books active recent tried id core.has_active input) b
      (safe_dropped_input (synced_of old.fronts) (synced_of new.fronts) books settled id
      (removed_gone (main id) old new well b).others input core.safe)

  -- a temporary data file that doesn't count
  pub core_temp_gone : (id : ℕ)
      → IsWell old → Core old.image old.fronts books active settled recent tried
      → (Counts (synced_of old.fronts) (main_temp id) → ⊥)
      → Removed (main_temp id) old new
      → Core new.image new.fronts books active settled recent tried
  core_temp_gone id well core uncounted b =
      let is = removed_gone (main_temp id) old new well b in
      core_removed (main_temp id) well core
      (other_by_kind active (main_temp id) refl) b
      (safe_dropped_temp (synced_of old.fronts) (synced_of new.fronts) books settled id is.others
      uncounted is.gone core.safe)

  -- a hint: without it a file is scanned
  pub core_hint_gone : (id : ℕ)
      → IsWell old → Core old.image old.fronts books active settled recent tried
      → Removed (hint id) old new
      → Core new.image new.fronts books active settled recent tried
  core_hint_gone id well core b =
      let is = removed_gone (hint id) old new well b in
      core_removed (hint id) well core
      (other_by_kind active (hint id) refl) b
      (safe_hint_gone (synced_of old.fronts) (synced_of new.fronts) books settled id is.gone
      is.others
      core.safe)

  pub core_temporary_gone : (n : Name)
      → IsWell old → Core old.image old.fronts books active settled recent tried
      → is_loose n.kind ≡ true → Removed n old new
      → Core new.image new.fronts books active settled recent tried
  core_temporary_gone n well core loose b =
      core_removed n well core
      (other_by_kind active n (loose_other n.kind loose)) b
      (safe_loose (synced_of old.fronts) (synced_of new.fronts) books settled n loose
      (removed_gone n old new well b).others core.safe)

  pub core_list_gone : (l : SwapList)
      → IsWell old → Core old.image old.fronts books active settled recent tried
      → (done : IsDone old.fronts l)
      → Removed (swap done.list.id) old new
      → Core new.image new.fronts books active settled recent tried
  core_list_gone l well core done b =
      let n : Name = swap done.list.id in
      let is = removed_gone n old new well b in
      core_removed n well core
      (other_by_kind active n refl) b
      (safe_unlisted (synced_of old.fronts) (synced_of new.fronts) books settled l
      (record {
        list = done.list;
        gone = is.gone;
        others = is.others;
        no_main = done.no_main;
        no_temp = done.no_temp;
        named = done.named;
      }) core.safe)

  -- ---- a data file without records goes that is no list's output

  pub core_empty_gone : (id : ℕ)
      → IsWell old → Core old.image old.fronts books active settled recent tried
      → IsOther active (main id)
      → (IsOutput (synced_of old.fronts) id → ⊥) → (Counts (synced_of old.fronts) (main id)
      → books (main id) ≡ [])
      → Removed (main id) old new
      → Core new.image new.fronts books active settled recent tried
  core_empty_gone id well core other unlisted empty b =
      let is = removed_gone (main id) old new well b in
      core_removed (main id) well core other b
      (safe_empty_gone (synced_of old.fronts) (synced_of new.fronts) books settled id is.others
      is.gone unlisted empty core.safe)

  -- ---- a temporary file that doesn't count comes, changes or goes

  pub core_loose : (n : Name)
      → Core old.image old.fronts books active settled recent tried → SameBut n old new
      → is_temporary n.kind ≡ true
      → (n.kind ≡ MainTemp → IsOutput (synced_of old.fronts) n.id → ⊥)
      → RestsAt (at new.image n) (at new.fronts n)
      → Core new.image new.fronts books active settled recent tried
  core_loose n core but temporary unlisted rests =
      let r : Reading = synced_of old.fronts in
      let s : Reading = synced_of new.fronts in
      let others : AllBut n r s = synced_others n old new but in
      let kinds = temporary_apart n.kind temporary in
      let lists : (k : ℕ) → s (swap k) ≡ r (swap k) =
      λ k. others (swap k) (other_kind (swap k) n kinds.swap_apart_from) in
      let unlisted_now : n.kind ≡ MainTemp → IsOutput s n.id
      → ⊥ = λ kind out. unlisted kind (output_kept s r n.id lists out) in
      let other : IsOther active n = other_by_kind active n kinds.main_apart in
      core_touched n core but
      (record {
        other = other;
        rests = rests;
        safe = safe_temporary_by r s books settled n.kind n.id temporary others unlisted
            unlisted_now
            core.safe;
        loose = λ m f is lends.
            by_name (λ k. at new.fronts k ≡ Some f → MayBeLent new.fronts k) n
            (λ _. record { temporary = temporary; unlisted = unlisted_now })
            (λ k apart here.
            let may = core.lent k f (sym (but k apart).front ∙ here) lends in
            record {
              temporary = may.temporary;
              unlisted = λ kind out. may.unlisted kind (output_kept s r k.id lists out);
            }) m is;
        counts = λ a is counts. (
          ap is_some (others (main a.id) (parted active n other a is)) ∙ counts.0,
          λ input. counts.1 (input_kept s r a.id lists input),
          counts.2,
        );
        no_hint = λ a _ none.
            (but (hint a.id) (other_kind (hint a.id) n kinds.hint_apart_from)).front
            ∙ none;
        book = λ a _. refl;
      })

  -- ---- an output of a list gets its own name

  pub core_settled : (id : ℕ)
      → IsWell old → Core old.image old.fronts books active settled recent tried
      → Counts (synced_of old.fronts) (main_temp id)
      → Renamed (main_temp id) (main id) old new
      → Core new.image new.fronts (placed (main id) (books (main_temp id)) books) active settled
      recent tried
  core_settled id well core counted b =
      let temp : Name = main_temp id in
      let own : Name = main id in
      let r : Reading = synced_of old.fronts in
      let s : Reading = synced_of new.fronts in
      let there : is_some (at old.image temp) ≡ true =
      sym (there_in_both old temp well) ∙ sym (there_synced old.fronts temp) ∙ counted.0 in
      let absent : is_some (at old.image own) ≡ false =
      sym (there_in_both old own well) ∙ sym (there_synced old.fronts own)
      ∙ false_from_ne_true (is_some (r own)) counted.3 in
      let two = two_renamed temp own old new well (other_kind temp own refl) there absent b in
      let synced : Option Front → Option (List ℕ) = option_map (λ (f : Front). f.synced) in
      let others : (n : Name) → same n own ≡ false → same n temp ≡ false → s n ≡ r n =
      λ n far apart. ap synced (two.others n apart far).front in
      let other : IsOther active own =
      output_other old.image old.fronts books active recent tried id core.has_active counted.3 in
      let lists : (k : ℕ) → s (swap k) ≡ r (swap k) =
      λ k. others (swap k) (swap_apart k id) (other_kind (swap k) temp refl) in
      core_framed core
      (record {
        safe = safe_settled r s books settled id
            (record {
              counted = counted;
              reads = ap synced two.front;
              gone = ap synced two.no_front;
              others = others;
            }) core.safe;
        rests = by_name (λ n. IsOther active n → RestsAt (at new.image n) (at new.fronts n)) own
            (λ _. rw (two.image, two.front) (core.others temp (other_by_kind active temp refl)))
            (λ n far. by_name (λ k. same k own ≡ false → IsOther active k
            → RestsAt (at new.image k) (at new.fronts k)) temp
            (λ _ _. rw (two.no_image, two.no_front) refl)
            (λ k apart far is_other. let stays = two.others k apart far in
            rw (stays.image, stays.front) (core.others k is_other)) n far);
        loose = λ n f is lends.
            by_name (λ k. at new.fronts k ≡ Some f → MayBeLent new.fronts k) own
            (λ here. absurd (true≢false
            (sym lends ∙ ours_by_count old.fronts core.lent temp counted f
            (sym two.front ∙ here))))
            (λ k far here. by_name (λ m. same m own ≡ false → at new.fronts m ≡ Some f
            → MayBeLent new.fronts m) temp
            (λ _ this. let differ : None ≡ Some f = sym two.no_front ∙ this in absurd (cc differ))
            (λ m apart far this.
            let may = core.lent m f (sym (two.others m apart far).front ∙ this) lends in
            record {
              temporary = may.temporary;
              unlisted = λ kind out. may.unlisted kind (output_kept s r m.id lists out);
            })
            k far here) n is;
        stays = λ a is. two.others (main a.id) (other_kind (main a.id) temp refl)
            (parted active own other a is);
        counts = λ a is counts. (
          ap is_some (others (main a.id) (parted active own other a is)
              (other_kind (main a.id) temp refl)) ∙ counts.0,
          λ input. counts.1 (input_kept s r a.id lists input),
          counts.2,
        );
        no_hint = λ a _ none. (two.others (hint a.id) (other_kind (hint a.id) temp refl)
            (hint_apart a.id id)).front ∙ none;
        book = λ a is. rw (parted active own other a is) refl;
      })
