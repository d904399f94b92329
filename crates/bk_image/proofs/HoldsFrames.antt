-- What a call on one data file leaves as it was: what `J` may speak of, and the ids to come.
use Rattle.std.proofs.Common.{◌≡◌, ℕ, ◌<◌, ◌≤◌, Bool, false, List, [], ◌∷◌, ◌++◌}
use Rattle.std.proofs.Common.{Option, None, Some, sym, ap, subst, ◌∙◌, arith, inl, inr}
use Rattle.std.proofs.Common.{append_assoc}
use Rattle.std.specs.Option.{option_map, unwrap_or}
use Rattle.std.specs.Prelude.{IfSome}
use Rattle.std.proofs.lemmas.Bool.{cases_Bool}
use Rattle.std.proofs.lemmas.List.{append-nil}
use Rattle.bk_base.specs.declared.names.Name.{Name}
use Rattle.bk_base.specs.declared.writes.Write.{Write}
use Rattle.bk_disk.specs.Names.{same}
use Rattle.bk_disk.specs.Told.{Front, Table, Told, at}
use Rattle.bk_disk.proofs.Names.{same_eq}
use Rattle.bk_disk.proofs.Frames.{SameAt, same_bytes}
use Rattle.bk_image.specs.Readings.{Books, main, swap, synced_of}
use Rattle.bk_image.specs.Core.{ActiveFile, IsOther}
use Rattle.bk_image.specs.Holds.{AreFree, Lasts, Shape, lent_in, shape_of}
use Rattle.bk_image.proofs.OneName.{SameBut, by_name}
use Rattle.bk_image.proofs.CoreFrames.{swap_apart, synced_others, synced_same}
use Rattle.bk_image.proofs.Places.{input_kept, output_kept}

-- ---- what `J` may speak of

-- the synced bytes, and what is lent, are as before
pub record ShowsSame (old new : Table Front) : Type 0 where
  pub synced : synced_of old ≡ synced_of new
  pub lent : lent_in old ≡ lent_in new

pub same_lent : (J : Shape → Type 0) (v : Shape) (lent : Name → Bool) → v.lent ≡ lent → J v
    → J (record v { lent = lent })
same_lent J v lent same j = subst J (λ i. record v { lent = same i }) j

pub same_shape : (J : Shape → Type 0) (old new : Table Front) (active : Option ActiveFile)
    (last : ℕ) (books : Books) (settled log : List Write) → ShowsSame old new
    → J (shape_of old active last books settled log)
    → J (shape_of new active last books settled log)
same_shape J old new active last books settled log shows j =
    let v = shape_of old active last books settled log in
    subst J (λ i. record v { reading = shows.synced i; lent = shows.lent i }) j

-- several writes, one after the other
pub many_writes : (J : Shape → Type 0) → Lasts J → (fronts : Table Front)
    (active : Option ActiveFile) (last : ℕ) (books : Books) (settled log more : List Write)
    → J (shape_of fronts active last books settled log)
    → J (shape_of fronts active last books settled (log ++ more))
many_writes J lasts fronts active last books settled log [] j =
    subst (λ (l : List Write). J (shape_of fronts active last books settled l))
    (sym (append-nil log)) j
many_writes J lasts fronts active last books settled log (w ∷ ws) j =
    subst (λ (l : List Write). J (shape_of fronts active last books settled l))
    (append_assoc log (w ∷ []) ws)
    (many_writes J lasts fronts active last books settled (log ++ w ∷ []) ws
    (lasts.writes (shape_of fronts active last books settled log) w j))

-- ---- one name

pub bytes_as : {o p : Option (List ℕ)} → o ≡ p → unwrap_or o [] ≡ unwrap_or p []
bytes_as same = ap (λ (o : Option (List ℕ)). unwrap_or o []) same

pub synced_as : {o p : Option Front} → o ≡ p
    → option_map (λ f. f.synced) o ≡ option_map (λ f. f.synced) p
synced_as same = ap (λ (o : Option Front). option_map (λ f. f.synced) o) same

pub lent_of : {o p : Option Front} → o ≡ p
    → unwrap_or (option_map (λ f. f.lent) o) false ≡ unwrap_or (option_map (λ f. f.lent) p) false
lent_of same = ap (λ (o : Option Front). unwrap_or (option_map (λ f. f.lent) o) false) same

pub lent_as : (old new : Table Front) (n : Name) (f g : Front) → at old n ≡ Some f
    → at new n ≡ Some g → g.lent ≡ f.lent → lent_in new n ≡ lent_in old n
lent_as old new n f g was is lent = lent_of is ∙ lent ∙ sym (lent_of was)

-- whether a file is lent doesn't change at one name, and so nowhere
pub lent_all : (n : Name) (old new : Told) → lent_in new.fronts n ≡ lent_in old.fronts n
    → SameBut n old new → lent_in old.fronts ≡ lent_in new.fronts
lent_all n old new here others =
    let each : (m : Name) → lent_in old.fronts m ≡ lent_in new.fronts m =
    by_name (λ m. lent_in old.fronts m ≡ lent_in new.fronts m) n (sym here)
    (λ m other. sym (lent_of (others m other).front)) in
    λ i m. each m i

-- a front that keeps its synced bytes
pub shows_same : (n : Name) (f g : Front) (old new : Told) → at old.fronts n ≡ Some f
    → at new.fronts n ≡ Some g → g.synced ≡ f.synced → g.lent ≡ f.lent → SameBut n old new
    → ShowsSame old.fronts new.fronts
shows_same n f g old new was is synced lent others = record {
  synced = synced_same n f g old new was is synced others;
  lent = lent_all n old new (lent_as old.fronts new.fronts n f g was is lent) others;
}

-- ---- the ids to come

pub above_other : (n m : Name) (last : ℕ) → last < n.id → m.id ≤ last → same n m ≡ false
above_other n m last above low =
    elim (cases_Bool (same n m)) [
      | inl p ↦ absurd (omega (arith, above, low, ap (λ (k : Name). k.id) (same_eq n m p)))
      | inr p ↦ p
    ]

-- no file with a greater id is the active one
pub above_active : (active : Option ActiveFile) (n : Name) (last : ℕ) → last < n.id
    → IfSome active (λ (a : ActiveFile). a.id ≤ last) → IsOther active n
above_active None n last above within = tt
above_active (Some a) n last above within = above_other n (main a.id) last above within

-- a call on a data file with an id given out
pub free_touched : (id last : ℕ) (old new : Told) → id ≤ last → SameBut (main id) old new
    → AreFree last old.image old.fronts → AreFree last new.image new.fronts
free_touched id last old new low others free = record {
  empty = λ k above.
      same_bytes (main k) old new (here (main k) above) ∙ free.empty k above;
  ours = λ k f above is. free.ours k f above (sym (here (main k) above).front ∙ is);
  others = λ n above no_main. (here n above).image ∙ free.others n above no_main;
  no_input = λ k above i. free.no_input k above (input_kept _ _ k lists i);
  no_output = λ k above i. free.no_output k above (output_kept _ _ k lists i);
} where
  here : (n : Name) → last < n.id → SameAt n old new
  here n above = others n (above_other n (main id) last above low)

  lists : (k : ℕ) → synced_of new.fronts (swap k) ≡ synced_of old.fronts (swap k)
  lists k = synced_others (main id) old new others (swap k) (swap_apart k id)
