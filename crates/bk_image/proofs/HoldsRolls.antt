-- What a roll does to a disk that holds a log: the next data file is made, and becomes the active
-- one.
use Rattle.std.proofs.Common.{◌≡◌, ℕ, ◌+◌, ◌<◌, ◌≤◌, true, false, List, [], ◌∷◌, ◌++◌}
use Rattle.std.proofs.Common.{length, Option, None, Some, refl, sym, ap, subst, ◌∙◌, arith, inl}
use Rattle.std.proofs.Common.{inr, length-append}
use Rattle.std.specs.Option.{is_some}
use Rattle.std.proofs.lemmas.Bool.{cases_Bool}
use Rattle.bk_base.specs.declared.names.Kind.TheVariants.{Main}
use Rattle.bk_base.specs.declared.names.Name.{Name}
use Rattle.bk_base.specs.declared.writes.Write.{Write}
use Rattle.bk_disk.specs.Names.{same}
use Rattle.bk_disk.specs.Told.{Front, IsWell, Told, at, bytes_of}
use Rattle.bk_disk.specs.Calls.{Made, fresh}
use Rattle.bk_disk.proofs.Files.{there_in_both, well_made}
use Rattle.bk_disk.proofs.Frames.{same_bytes}
use Rattle.bk_disk.proofs.Names.{same_eq}
use Rattle.bk_image.specs.Readings.{bytes_in, hint, main, placed, swap, synced_of}
use Rattle.bk_image.specs.Core.{ActiveFile, Core, RestsAt}
use Rattle.bk_image.specs.Holds.{AreFree, Holds, Lasts, Makes, Shape, lent_in, shape_of}
use Rattle.bk_image.proofs.BookEdits.{placed_here}
use Rattle.bk_image.proofs.CoreEvents.{IsNew, core_new, core_rolled}
use Rattle.bk_image.proofs.CoreFrames.{swap_apart, synced_others}
use Rattle.bk_image.proofs.HoldsEvents.{no_recent}
use Rattle.bk_image.proofs.HoldsFrames.{above_active, bytes_as, lent_all, lent_of}
use Rattle.bk_image.proofs.HoldsFrames.{same_lent, synced_as}
use Rattle.bk_image.proofs.OneName.{SameBut, none_of, one_kept, one_made, some_of}
use Rattle.bk_image.proofs.Places.{input_kept, output_kept}

-- ---- a file of a new id, made now

-- The file was absent or empty. It is there now, empty and ours.
pub record IsMade (id : ℕ) (old new : Told) : Type 0 where
  pub was_empty : bytes_in (synced_of old.fronts) (main id) ≡ []
  pub front : Front
  pub is : at new.fronts (main id) ≡ Some front
  pub ours : front.lent ≡ false
  pub empty : front.synced ≡ []
  pub image : at new.image (main id) ≡ Some []
  pub lent : lent_in new.fronts (main id) ≡ lent_in old.fronts (main id)
  pub others : SameBut (main id) old new

module _ (id : ℕ) (old new : Told) (well : IsWell old) (made : Made (main id) false old new) where
  made_new : is_some (at old.image (main id)) ≡ false → IsMade id old new
  made_new absent =
      let one = one_made (main id) false old new well absent made in
      let none = none_of (at old.fronts (main id)) (there_in_both old (main id) well ∙ absent) in
      record {
        was_empty = bytes_as (synced_as none);
        front = fresh false;
        is = one.front;
        ours = refl;
        empty = refl;
        image = one.image;
        lent = lent_of one.front ∙ sym (lent_of none);
        others = one.others;
      }

  made_kept : is_some (at old.image (main id)) ≡ true → bytes_of (main id) old.image ≡ []
      → RestsAt (at old.image (main id)) (at old.fronts (main id))
      → ((f : Front) → at old.fronts (main id) ≡ Some f → f.lent ≡ false) → IsMade id old new
  made_kept there empty rests ours =
      let one = one_kept (main id) false old new well there made in
      let (bytes, is) = some_of (at old.image (main id)) there in
      let (f, was) = some_of (at old.fronts (main id)) (there_in_both old (main id) well ∙ there) in
      let no_bytes : bytes ≡ [] = sym (bytes_as is) ∙ empty in
      let settled = subst (λ o. RestsAt (at old.image (main id)) o) was rests in
      let read : Some bytes ≡ Some f.synced = sym is ∙ settled.reads (ours f was) in
      let same_bytes : bytes ≡ f.synced = cc read in
      let none : f.synced ≡ [] = sym same_bytes ∙ no_bytes in
      record {
        was_empty = bytes_as (synced_as was) ∙ none;
        front = f;
        is = one.front ∙ was;
        ours = ours f was;
        empty = none;
        image = one.image ∙ is ∙ ap Some no_bytes;
        lent = lent_of one.front;
        others = one.others;
      }

-- ---- the ids to come

no_main : (n : Name) (id : ℕ) → (n.kind ≡ Main → ⊥) → same n (main id) ≡ false
no_main n id other =
    elim (cases_Bool (same n (main id))) [
      | inl p ↦ absurd (other (ap (λ (k : Name). k.kind) (same_eq n (main id) p)))
      | inr p ↦ p
    ]

-- They are as free as before.
free_made : (id last : ℕ) (old new : Told) → IsMade id old new → AreFree last old.image old.fronts
    → AreFree last new.image new.fronts
free_made id last old new made free = record {
  empty = λ k above.
      elim (cases_Bool (same (main k) (main id))) [
        | inl p ↦ ap (λ n. bytes_of n new.image) (same_eq (main k) (main id) p)
            ∙ bytes_as made.image
        | inr p ↦ same_bytes (main k) old new (made.others (main k) p) ∙ free.empty k above
      ];
  ours = λ k f above is.
      elim (cases_Bool (same (main k) (main id))) [
        | inl p ↦
            let here : at new.fronts (main k) ≡ Some made.front =
            ap (λ n. at new.fronts n) (same_eq (main k) (main id) p) ∙ made.is in
            let both : Some f ≡ Some made.front = sym is ∙ here in
            let this : f ≡ made.front = cc both in
            ap (λ (g : Front). g.lent) this ∙ made.ours
        | inr p ↦ free.ours k f above (sym (made.others (main k) p).front ∙ is)
      ];
  others = λ n above other. (made.others n (no_main n id other)).image ∙ free.others n above other;
  no_input = λ k above i. free.no_input k above (input_kept _ _ k lists i);
  no_output = λ k above i. free.no_output k above (output_kept _ _ k lists i);
} where
  lists : (k : ℕ) → synced_of new.fronts (swap k) ≡ synced_of old.fronts (swap k)
  lists k = synced_others (main id) old new made.others (swap k) (swap_apart k id)

free_later : {last later : ℕ} (t : Told) → last ≤ later → AreFree last t.image t.fronts
    → AreFree later t.image t.fronts
free_later t low free = record {
  empty = λ k above. free.empty k (omega (arith, low, above));
  ours = λ k f above is. free.ours k f (omega (arith, low, above)) is;
  others = λ n above other. free.others n (omega (arith, low, above)) other;
  no_input = λ k above i. free.no_input k (omega (arith, low, above)) i;
  no_output = λ k above i. free.no_output k (omega (arith, low, above)) i;
}

is_new : {J : Shape → Type 0} {t : Told} {active : Option ActiveFile} {last : ℕ} {log : List Write}
    {kept : ℕ} {tried : List Write} (id : ℕ) → last < id → Holds J t active last log kept tried
    → IsNew id active t
is_new {t = t} {active = active} {last = last} id above h = record {
  first = omega (arith, above);
  other = above_active active (main id) last above h.within;
  empty = h.free.empty id above;
  ours = λ f is. h.free.ours id f above is;
  no_hint =
      let none : at t.image (hint id) ≡ None = h.free.others (hint id) above (λ p. absurd (cc p)) in
      none_of (at t.fronts (hint id)) (there_in_both t (hint id) h.well ∙ ap is_some none);
  no_input = h.free.no_input id above;
  no_output = h.free.no_output id above;
}

module _ {J : Shape → Type 0} {old new : Told} {active : Option ActiveFile} {last : ℕ}
    {log : List Write} {kept : ℕ} {tried : List Write} where
  pub made_next : (id : ℕ) → last < id → Holds J old active last log kept tried
      → Made (main id) false old new → IsMade id old new
  made_next id above h b =
      let n = is_new id above h in
      elim (cases_Bool (is_some (at old.image (main id)))) [
        | inl p ↦ made_kept id old new h.well b p n.empty (h.core.others (main id) n.other) n.ours
        | inr p ↦ made_new id old new h.well b p
      ]

  job_made : Lasts J → (id : ℕ) → last < id → (h : Holds J old active last log kept tried)
      → IsMade id old new
      → J (shape_of new.fronts active last (placed (main id) [] h.books) h.settled log)
  job_made lasts id above h made =
      let v = shape_of old.fronts active last h.books h.settled log in
      let s = synced_of new.fronts in
      let makes : Makes v id s = record {
        above = above;
        was_empty = made.was_empty;
        no_input = h.free.no_input id above;
        no_output = h.free.no_output id above;
        reads = synced_as made.is ∙ ap Some made.empty;
        others = synced_others (main id) old new made.others;
      } in
      same_lent J (record v { reading = s; books = placed (main id) [] h.books })
      (lent_in new.fronts)
      (lent_all (main id) old new made.lent made.others) (lasts.makes v id s makes h.job)

  -- The next file was made, and isn't the active one: the roll was refused.
  pub holds_made : Lasts J → Holds J old active last log kept tried
      → Made (main (last + 1)) false old new → Holds J new active last log kept tried
  holds_made lasts h b =
      let above : last < last + 1 = omega arith in
      let made = made_next (last + 1) above h b in
      record {
        books = placed (main (last + 1)) [] h.books;
        settled = h.settled;
        recent = h.recent;
        split = h.split;
        kept_safe = h.kept_safe;
        well = well_made (main (last + 1)) false old new b h.well;
        within = h.within;
        free = free_made (last + 1) last old new made h.free;
        core = core_new old new h.books active h.settled h.recent tried (last + 1) h.well h.core
            (is_new (last + 1) above h) b;
        job = job_made lasts (last + 1) above h made;
      }

-- The next file is the active one. Before that all was synced.
pub holds_rolled : {J : Shape → Type 0} → Lasts J → {old new : Told} {active : Option ActiveFile}
    {last : ℕ} {log : List Write} → Holds J old active last log (length log) []
    → Made (main (last + 1)) false old new
    → Holds J new (Some (record { id = last + 1; len = 0 })) (last + 1) log (length log) []
holds_rolled {J} lasts {old} {new} {active} {last} {log} h b =
    let above : last < last + 1 = omega arith in
    let made = made_next (last + 1) above h b in
    let core = subst (λ (ws : List Write). Core old.image old.fronts h.books active h.settled ws [])
    (no_recent h) h.core in
    let books = placed (main (last + 1)) [] h.books in
    record {
      books = books;
      settled = h.settled;
      recent = [];
      split = h.split ∙ ap (λ (ws : List Write). h.settled ++ ws) (no_recent h);
      kept_safe = h.kept_safe;
      well = well_made (main (last + 1)) false old new b h.well;
      within = omega arith;
      free = free_later new (omega arith) (free_made (last + 1) last old new made h.free);
      core =
          core_rolled old new h.books active h.settled (last + 1) h.well core
          (is_new (last + 1) above h) b;
      job = lasts.rolls (shape_of new.fronts active last books h.settled log) (last + 1) above
          (placed_here (main (last + 1)) [] h.books) (job_made lasts (last + 1) above h made);
    }

-- ---- no active file: nothing was appended or tried

pub none_behind : (xs ys : List Write) → xs ++ ys ≡ [] → ys ≡ []
none_behind [] ys none = none
none_behind (x ∷ xs) ys none = absurd (cc none)

module _ {J : Shape → Type 0} {t : Told} {last : ℕ} {log : List Write} {kept : ℕ}
    {tried : List Write} where
  -- no crash takes a write
  pub holds_still : Holds J t None last log kept tried → Holds J t None last log (length log) tried
  holds_still h = record {
    books = h.books;
    settled = h.settled;
    recent = h.recent;
    split = h.split;
    kept_safe = omega (
      arith,
      ap length h.split,
      length-append h.settled h.recent,
      ap length h.core.has_active,
      length-append h.recent tried,
    );
    well = h.well;
    within = h.within;
    free = h.free;
    core = h.core;
    job = h.job;
  }

  pub none_tried : Holds J t None last log kept tried → tried ≡ []
  none_tried h = none_behind h.recent tried h.core.has_active
