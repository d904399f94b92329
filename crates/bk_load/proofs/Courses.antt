-- A disk goes on over one call after the other.
use Rattle.std.proofs.Common.{◌≡◌, ◌⊎◌, ℕ, ◌≤◌, Bool, true, false, Result, Ok, Err, refl, sym, subst, ◌∙◌, arith}
use Rattle.std.specs.Prelude.{IfOk, IsErrAnd, IsErrOf, IsTrue, OnErr, OnOk}
use Rattle.bk_disk.specs.Causes.{HasCause, Rose, bumped, most}
use Rattle.bk_disk.specs.Shown.{DiskShown}
use Rattle.bk_disk.specs.declared.errors.DiskError.{DiskError}
use Rattle.bk_disk.specs.declared.errors.DiskError.TheVariants.{Failed as failed, Memory as memory}
use Rattle.bk_disk.specs.Told.{Told}
use Rattle.bk_load.specs.declared.errors.OpenError.{OpenError}
use Rattle.bk_load.specs.declared.errors.OpenError.TheVariants.{Disk, Read, Memory as open_memory}
use Rattle.bk_load.specs.Courses.{Came, Course}
use Rattle.bk_load.specs.Errors.{opened, scan_error_of}
use Rattle.bk_files.specs.Scan.{HasReadCause}
use Rattle.bk_files.specs.declared.scan.ScanError.{ScanError}
use Rattle.bk_files.specs.declared.scan.ScanError.TheVariants.{Read as scan_failed, Memory as scan_memory}
use Rattle.bk_load.specs.Tidying.{Goes}
use Rattle.bk_load.proofs.Going.{goes_or, goes_refl, goes_trans}
use Rattle.bk_store.proofs.AppendExits.{rose_since}

pub came_refl : (tells : Bool) (a : DiskShown) → Came tells a a
came_refl tells a = record { faults = omega arith; views = omega arith; outs = refl; goes = λ told. goes_refl a.told }

pub came_trans : (tells : Bool) (a b c : DiskShown) → Came tells a b → Came tells b c → Came tells a c
came_trans tells a b c p q = record {
  faults = let x = p.faults in let y = q.faults in omega (arith, x, y);
  views = let x = p.views in let y = q.views in omega (arith, x, y);
  outs = q.outs ∙ p.outs;
  goes = λ told. goes_trans a.told b.told c.told (p.goes told) (q.goes told);
}

-- after calls that came to b, one that went on with this result
pub course_after : {T : Type 0} (tells : Bool) (a b c : DiskShown) (result : Result T OpenError) → Came tells a b
    → Course tells b c result → Course tells a c result
course_after tells a b c result p q = record {
  came = came_trans tells a b c p q.came;
  disk = λ is. rose_since a.faults b.faults c.faults p.faults (q.disk is);
  read = λ is. rose_since a.views b.views c.views p.views (q.read is);
}

-- the same refusal is given on, or another answer that names no more causes
pub course_on : {T U : Type 0} (tells : Bool) (a b : DiskShown) (r : Result T OpenError) (s : Result U OpenError)
    → Course tells a b r → (IsErrOf s Disk → IsErrOf r Disk) → (IsErrOf s Read → IsErrOf r Read) → Course tells a b s
course_on tells a b r s c disk read =
    record { came = c.came; disk = λ is. c.disk (disk is); read = λ is. c.read (read is) }

-- no call was refused
pub course_ok : {T : Type 0} (tells : Bool) (a b : DiskShown) (x : T) → Came tells a b → Course tells a b (Ok x)
course_ok tells a b x c = record { came = c; disk = λ is. absurd (cc is); read = λ is. absurd (cc is) }

-- memory was refused
pub course_memory : {T : Type 0} (tells : Bool) (a b : DiskShown) (r : Result T OpenError) → Came tells a b
    → IsErrAnd r (λ e. e ≡ open_memory) → Course tells a b r
course_memory tells a b (Ok x) c is = absurd is
course_memory {T} tells a b (Err e) c is =
    subst (λ (x : OpenError). Course {T = T} tells a b (Err x)) (sym is)
    (record { came = c; disk = λ e. absurd (cc e); read = λ e. absurd (cc e) })

-- a call of the disk gave the cause
pub course_opened : {T : Type 0} (tells : Bool) (a b : DiskShown) (r : Result T DiskError) → HasCause a.faults b.faults r
    → b.views ≡ a.views → b.outs ≡ a.outs → (IsTrue tells → Goes a.told b.told) → Course tells a b (opened r)
course_opened tells a b r cause views outs goes = record {
  came = record { faults = cause.later; views = omega (arith, views); outs = outs; goes = goes };
  disk = λ is. cause.failed (failed_from r is);
  read = λ is. absurd (not_read r is);
} where
  failed_from : {T : Type 0} (r : Result T DiskError) → IsErrOf (opened r) Disk → IsErrOf r failed
  failed_from (Ok x) is = absurd (cc is)
  failed_from (Err failed) is = refl
  failed_from (Err memory) is = absurd (cc is)

  not_read : {T : Type 0} (r : Result T DiskError) → IsErrOf (opened r) Read → ⊥
  not_read (Ok x) is = cc is
  not_read (Err failed) is = cc is
  not_read (Err memory) is = cc is

-- what holds after an Ok
pub ok_opened : {T : Type 0} (r : Result T DiskError) (P Q : Type 0) → (P → Q) → OnOk r P → OnOk (opened r) Q
ok_opened (Ok x) P Q f p = f p
ok_opened (Err e) P Q f p = tt

-- a call did its work, or was refused and did it or not
pub result_goes : {T : Type 0} (r : Result T DiskError) (t u : Told) (Done : Type 0) → (Done → Goes t u) → OnOk r Done
    → OnErr r ((u ≡ t) ⊎ Done) → Goes t u
result_goes (Ok x) t u Done done ok err = done ok
result_goes (Err e) t u Done done ok err = goes_or t u Done done err

-- a view was asked for
pub course_viewed : {T : Type 0} (tells : Bool) (a b : DiskShown) (r : Result T DiskError) → HasCause a.faults b.faults r
    → a.views ≤ b.views → b.outs ≡ a.outs → (IsTrue tells → Goes a.told b.told) → Course tells a b (opened r)
course_viewed tells a b r cause views outs goes = record {
  came = record { faults = cause.later; views = views; outs = outs; goes = goes };
  disk = λ is. cause.failed (failed_from r is);
  read = λ is. absurd (not_read r is);
} where
  failed_from : {T : Type 0} (r : Result T DiskError) → IsErrOf (opened r) Disk → IsErrOf r failed
  failed_from (Ok x) is = absurd (cc is)
  failed_from (Err failed) is = refl
  failed_from (Err memory) is = absurd (cc is)

  not_read : {T : Type 0} (r : Result T DiskError) → IsErrOf (opened r) Read → ⊥
  not_read (Ok x) is = cc is
  not_read (Err failed) is = cc is
  not_read (Err memory) is = cc is

-- what was read through a view that the disk made
pub course_read : {T : Type 0} (tells : Bool) (a b : DiskShown) (fallible : Bool) (r : Result T OpenError) → Came tells a b
    → b.views ≡ bumped fallible a.views → (IsErrOf r Read → fallible ≡ true) → (IsErrOf r Disk → ⊥) → Course tells a b r
course_read tells a b fallible r came views read disk = record {
  came = came;
  disk = λ is. absurd (disk is);
  read = λ is. go fallible views (read is);
} where
  go : (f : Bool) → b.views ≡ bumped f a.views → f ≡ true → Rose a.views b.views
  go true e is = omega (arith, e)
  go false e is = absurd (cc is)

-- no count falls
pub views_later : {T : Type 0} (fallible : T → Bool) (r : Result T DiskError) (a b : ℕ) → a ≤ most
    → IfOk r (λ v. b ≡ bumped (fallible v) a) → OnErr r (b ≡ a) → a ≤ b
views_later fallible (Ok v) a b low ok err = go (fallible v) ok where
  go : (f : Bool) → b ≡ bumped f a → a ≤ b
  go true e = omega (arith, e, low)
  go false e = omega (arith, e)
views_later fallible (Err e) a b low ok err = omega (arith, err)

-- what a scan's refusal says of the view
pub scan_read : {T U : Type 0} (q : Result T ScanError) (r : Result U OpenError) (x : ScanError) (before now : ℕ) (f g : Bool)
    → q ≡ Err x → ((e : OpenError) × (r ≡ Err e) × (e ≡ scan_error_of x)) → HasReadCause before now f g q → IsErrOf r Read → f ≡ true
scan_read q r x before now f g is (e, err, from) cause read = go x is from where
  go : (y : ScanError) → q ≡ Err y → e ≡ scan_error_of y → f ≡ true
  go scan_failed was gives = (cause.failed was).1
  go scan_memory was gives =
      let same : Err e ≡ Err Read = sym err ∙ read in
      let e_is : e ≡ Read = cc same in
      let never : open_memory ≡ Read = sym gives ∙ e_is in
      absurd (cc never)

pub scan_no_disk : {U : Type 0} (r : Result U OpenError) (x : ScanError)
    → ((e : OpenError) × (r ≡ Err e) × (e ≡ scan_error_of x)) → IsErrOf r Disk → ⊥
scan_no_disk r x (e, err, from) disk = go x from where
  go : (y : ScanError) → e ≡ scan_error_of y → ⊥
  go scan_failed gives =
      let same : Err e ≡ Err Disk = sym err ∙ disk in
      let e_is : e ≡ Disk = cc same in
      let never : Read ≡ Disk = sym gives ∙ e_is in
      cc never
  go scan_memory gives =
      let same : Err e ≡ Err Disk = sym err ∙ disk in
      let e_is : e ≡ Disk = cc same in
      let never : open_memory ≡ Disk = sym gives ∙ e_is in
      cc never
