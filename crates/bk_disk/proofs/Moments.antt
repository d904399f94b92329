-- What holds of the fronts at each moment since one.
use Rattle.std.proofs.Common.{◌≡◌, ℕ, ◌≤◌, ◌⊎◌, List, [], ◌∷◌, length, map, get_or, refl, sym, ◌∙◌, ap, arith, subst, inl, inr, length-append}
use Rattle.std.proofs.lemmas.List.{get_or_past, get_or_append_left, get_or_default, get_or_push, take_all}
use Rattle.std.proofs.lemmas.Bool.{cases_lt}
use Rattle.bk_disk.specs.Told.{Table, Image, Front, Told, clock}
use Rattle.bk_disk.specs.Crashes.{AtEach, MayLeaveSince, MayLeave, MayLeaveNow, fronts_at, front_of, IsSynced, Keeps}
use Rattle.bk_disk.specs.Calls.{Passes}

-- the last moment's fronts are those of now
pub now : (t : Told) → fronts_at t (clock t) ≡ t.fronts
now t = get_or_past t.past (clock t) t.fronts (omega arith)

-- since now there is no other moment
pub started : (t : Told) (P : Table Front → Type 0) → P t.fronts → AtEach t (clock t) P
started t P p k from to = subst P (sym (get_or_past t.past k t.fronts from)) p

-- a change gives at most one moment more
pub goes_on : (old new : Told) (from : ℕ) (P : Table Front → Type 0) → Passes old new
    → AtEach old from P → P new.fronts → AtEach new from P
goes_on old new from P (inl same) each p k low high =
    elim (cases_lt k (length old.past)) [
      | inl lt ↦ subst P (ap (λ past. get_or past k old.fronts) (sym same.0)
          ∙ get_or_default new.past k old.fronts new.fronts (rw same.0 lt)) (each k low (omega (arith, lt)))
      | inr ge ↦ subst P (sym (get_or_past new.past k new.fronts (rw same.0 ge))) p
    ]
goes_on old new from P (inr more) each p k low high =
    elim (cases_lt k (length old.past)) [
      | inl lt ↦
          subst P (get_or_default old.past k old.fronts new.fronts lt
          ∙ sym (get_or_append_left old.past (old.fronts ∷ []) new.fronts k lt)
          ∙ ap (λ past. get_or past k new.fronts) (sym more))
          (each k low (omega (arith, lt)))
      | inr ge ↦
          elim (cases_lt (length old.past) k) [
            | inl past ↦ subst P
                (sym (get_or_past new.past k new.fronts (rw (more, length-append) (omega (arith, past))))) p
            | inr le ↦
                let is : length old.past ≡ k = omega (arith, ge, le) in
                subst P (get_or_past old.past k old.fronts ge
                ∙ sym (get_or_push old.past old.fronts new.fronts k is)
                ∙ ap (λ past. get_or past k new.fronts) (sym more))
                (each k low (omega (arith, le)))
          ]
    ]

pub later : (old new : Told) → Passes old new → clock old ≤ clock new
later old new (inl same) = rw same.0 (omega arith)
later old new (inr more) = rw (more, length-append) (omega arith)

pub AtEach-from : (t : Told) (from to : ℕ) (P : Table Front → Type 0) → from ≤ to → AtEach t from P → AtEach t to P
AtEach-from t from to P le each k low high = each k (omega (arith, le, low)) high

pub AtEach-map : (t : Told) (from : ℕ) (P Q : Table Front → Type 0)
    → ((fronts : Table Front) → P fronts → Q fronts) → AtEach t from P → AtEach t from Q
AtEach-map t from P Q f each k low high = f (fronts_at t k) (each k low high)

-- what holds of each image that each moment may leave holds of those that a crash since then may have left
pub left_since : (t : Told) (from : ℕ) (Q : Image → Type 0)
    → AtEach t from (λ fronts. (image : Image) → MayLeave fronts image → Q image) → (image : Image)
    → MayLeaveSince t from image → Q image
left_since t from Q each image (k, low, high, left) = each k low high image left

-- How far a call has come: it began at a moment, and P held of the fronts at each moment since.
pub record SoFar (t : Told) (from : ℕ) (P : Table Front → Type 0) : Type 0 where
  pub began : from ≤ clock t
  pub each : AtEach t from P

pub begins : (t : Told) (P : Table Front → Type 0) → P t.fronts → SoFar t (clock t) P
begins t P p = record { began = omega arith; each = started t P p }

-- a change that was made
pub comes_on : (old new : Told) (from : ℕ) (P : Table Front → Type 0) → Passes old new → P new.fronts
    → SoFar old from P → SoFar new from P
comes_on old new from P passes p so = record {
  began = omega (arith, so.began, later old new passes);
  each = goes_on old new from P passes so.each p;
}

-- a call that was refused left what was told, or made its change
pub refused : (old new : Told) (from : ℕ) (P : Table Front → Type 0) (Done : Type 0) → (new ≡ old) ⊎ Done
    → (Done → Passes old new × P new.fronts) → SoFar old from P → SoFar new from P
refused old new from P Done (inl same) made so = subst (λ (t : Told). SoFar t from P) (sym same) so
refused old new from P Done (inr done) made so = comes_on old new from P (made done).0 (made done).1 so

-- Of a disk that is synced whole a crash leaves the image as it reads.

kept_whole : (bytes left : List ℕ) → Keeps (front_of bytes) left → left ≡ bytes
kept_whole bytes left k = sym (take_all (length bytes) left k.no_longer) ∙ k.synced

leaves_synced : (image left : Image) → MayLeave (map (λ e. (e.0, front_of e.1)) image) left → left ≡ image
leaves_synced [] [] h = refl
leaves_synced [] (l ∷ ls) h = absurd h
leaves_synced (e ∷ es) [] h = absurd h
leaves_synced (e ∷ es) (l ∷ ls) h =
    ap (λ n. (n, l.1) ∷ ls) (sym h.0)
    ∙ ap (λ bytes. (e.0, bytes) ∷ ls) (kept_whole e.1 l.1 (h.1.keeps refl))
    ∙ ap (λ t. e ∷ t) (leaves_synced es ls h.2)

pub synced_leaves : (t : Told) (left : Image) → IsSynced t → MayLeaveNow t left → left ≡ t.image
synced_leaves t left synced h = leaves_synced t.image left (subst (λ fronts. MayLeave fronts left) synced h)
