-- What a disk that holds a log reads as now, and what a crash leaves of it.
use Rattle.std.proofs.Common.{◌≡◌, ℕ, ◌≤◌, List, [], ◌++◌, length, take, Option, sym, ap}
use Rattle.std.proofs.Common.{subst, ◌∙◌, arith, inl, inr, length-append}
use Rattle.std.proofs.lemmas.List.{append-nil, take-append-le, take_all}
use Rattle.bk_base.specs.declared.writes.Write.{Write}
use Rattle.bk_laws.specs.Log.{SameMap, put_of, winner}
use Rattle.bk_disk.specs.Told.{Front, Image, Table, Told}
use Rattle.bk_disk.specs.Crashes.{MayLeave}
use Rattle.bk_image.specs.Core.{ActiveFile}
use Rattle.bk_image.specs.Holds.{Begun, Holds, IsLeft, Shape}
use Rattle.bk_image.specs.Prefix.{HasPrefix, MeetsEither, MeetsPrefix, Prefix}
use Rattle.bk_image.specs.SoundDirectory.{IsSound}
use Rattle.bk_image.proofs.CrashPrefixes.{crash_meets, crash_meets_at_rest, stands_now}
use Rattle.bk_image.proofs.HoldsEvents.{no_recent}

-- ---- prefixes

same_take : (found xs ys : List Write) → xs ≡ ys → SameMap found xs → SameMap found ys
same_take found xs ys same map key = map key ∙ ap (λ (l : List Write). put_of (winner l key)) same

module _ {image : Image} {log : List Write} {kept : ℕ} where
  -- with nothing tried, so with anything
  pub prefix_tried : (tried : List Write) → Prefix image log kept [] → Prefix image log kept tried
  prefix_tried tried p =
      let whole : log ++ [] ≡ log = append-nil log in
      let high : p.part.n ≤ length log = omega (arith, p.part.high, ap length whole) in
      let taken : take p.part.n (log ++ []) ≡ take p.part.n (log ++ tried) =
      ap (take p.part.n) whole ∙ sym (take-append-le p.part.n log tried high) in
      record {
        found = p.found;
        sound = p.sound;
        part = record {
          n = p.part.n;
          low = p.part.low;
          high = omega (arith, high, length-append log tried);
          same_map = same_take p.found _ _ taken p.part.same_map;
        };
      }

  -- what now stands in the log was tried before
  pub prefix_moved : {more : List Write} → Prefix image (log ++ more) kept []
      → Prefix image log kept more
  prefix_moved {more} p = record {
    found = p.found;
    sound = p.sound;
    part = subst (λ (l : List Write). HasPrefix p.found kept l) (append-nil (log ++ more)) p.part;
  }

-- of a whole log: exactly its map
pub prefix_whole : {image : Image} {log : List Write} → Prefix image log (length log) []
    → (found : List Write) × IsSound image found × SameMap found log
prefix_whole {log = log} p =
    let whole : log ++ [] ≡ log = append-nil log in
    let all : take p.part.n (log ++ []) ≡ log =
    ap (take p.part.n) whole ∙ take_all p.part.n log p.part.low in
    (p.found, p.sound, same_take p.found _ log all p.part.same_map)

-- within an event
pub meets_either : (e : Begun) (left : List Write) (fronts : Table Front) → IsLeft e left
    → MeetsPrefix e.log e.kept left fronts → MeetsEither e.log e.kept e.tried e.more fronts
meets_either e left fronts (inl was) meets image may chance =
    inl (subst (λ (l : List Write). Prefix image e.log e.kept l) was (meets image may chance))
meets_either e left fronts (inr (inl none)) meets image may chance =
    inl (prefix_tried e.tried
    (subst (λ (l : List Write). Prefix image e.log e.kept l) none (meets image may chance)))
meets_either e left fronts (inr (inr is)) meets image may chance =
    inr (subst (λ (l : List Write). Prefix image e.log e.kept l) is (meets image may chance))

-- ---- of a disk that holds a log

module _ {J : Shape → Type 0} {t : Told} {active : Option ActiveFile} {last : ℕ} {log : List Write}
    {kept : ℕ} where
  -- as it reads: the whole log, and perhaps some of what was tried
  pub holds_now : {tried : List Write} → Holds J t active last log kept tried
      → Prefix t.image log (length log) tried
  holds_now {tried = tried} h =
      subst (λ (l : List Write). Prefix t.image l (length l) tried) (sym h.split)
      (stands_now t.image t.fronts h.books active h.settled h.recent tried h.core)

  -- where nothing is tried: the map of the log
  pub holds_map : Holds J t active last log kept []
      → (found : List Write) × IsSound t.image found × SameMap found log
  holds_map h = prefix_whole (holds_now h)

  -- each crash leaves a prefix of the log, with what was tried behind it
  pub holds_prefix : {tried : List Write} → Holds J t active last log kept tried
      → MeetsPrefix log kept tried t.fronts
  holds_prefix {tried = tried} h =
      subst (λ (l : List Write). MeetsPrefix l kept tried t.fronts) (sym h.split)
      (crash_meets t.image t.fronts h.books active h.settled h.recent tried kept h.core h.kept_safe)

-- where all is synced: the whole log, and no chance match has a say
pub holds_at_rest : {J : Shape → Type 0} {t : Told} {active : Option ActiveFile} {last : ℕ}
    {log : List Write} → Holds J t active last log (length log) []
    → (left : Image) → MayLeave t.fronts left → Prefix left log (length log) []
holds_at_rest {t = t} {active = active} {log = log} h left may =
    subst (λ (l : List Write). Prefix left l (length log) []) (sym h.split)
    (crash_meets_at_rest t.image t.fronts h.books active h.settled h.recent [] h.core
    (append-nil h.recent ∙ no_recent h) left may (length log) h.kept_safe)
