-- What reading a request says of a stream, and that a stream is one of three: the front of a request, a
-- request and a rest, or neither, however it goes on.
use Rattle.std.proofs.Common.{◌≡◌, ℕ, ◌<◌, List, [], ◌++◌, ◌+◌, ◌-◌, ◌⊎◌, length, drop, Result, Ok, Err, refl, sym, ap, ◌∙◌, inl, inr, arith, append-nil, length-append}
use Rattle.bk_base.specs.declared.requests.Request.{Request}
use Rattle.bk_base.specs.declared.requests.Request.TheVariants.{Get}
use Rattle.bk_base.specs.Bounds.{AreBytes}
use Rattle.bk_laws.specs.Wire.{Fits, request_text, StandsIn, NoneStands, IsPartial, IsBad}
use Rattle.bk_wire.specs.declared.stops.Stop.{Stop}
use Rattle.bk_wire.specs.declared.stops.Stop.TheVariants.{Short, Bad}
use Rattle.bk_wire.specs.Reading.{request_at}
use Rattle.bk_wire.specs.Found.{Finds}
use Rattle.bk_wire.proofs.CodeLaws as laws
use Rattle.bk_wire.proofs.RequestCodes.{request_code}

partial : (stream : List ℕ) → AreBytes stream → request_at stream ≡ Err Short → IsPartial stream
partial stream all e =
    let (r, more, fits, some, goes_on) = laws.cut_off request_code stream all e in
    record { request = r; fits = fits; more = more; some = some; goes_on = goes_on }

bad : (stream : List ℕ) → AreBytes stream → request_at stream ≡ Err Bad → IsBad stream
bad stream all e more r rest stands = laws.never request_code stream all e more r rest stands.fits stands.whole

-- no request begins another
pub same_request : (r s : Request) (xs ys : List ℕ) → Fits r → Fits s
    → request_text r ++ xs ≡ request_text s ++ ys → (r ≡ s) × (xs ≡ ys)
same_request = laws.one_text request_code

-- what stands at the front of a stream is one request, with one rest
pub same_standing : (stream : List ℕ) (r s : Request) (xs ys : List ℕ) → StandsIn stream r xs
    → StandsIn stream s ys → (r ≡ s) × (xs ≡ ys)
same_standing stream r s xs ys one two =
    same_request r s xs ys one.fits two.fits (sym one.whole ∙ two.whole)

-- a request has bytes, so what follows one is shorter
pub some_text : (r : Request) → 0 < length (request_text r)
unfolding request_text
some_text (Get key) = omega arith
some_text _ = omega arith

pub shorter : (stream : List ℕ) (r : Request) (rest : List ℕ) → StandsIn stream r rest → length rest < length stream
shorter stream r rest stands =
    omega (arith, ap length stands.whole, length-append (request_text r) rest, some_text r)

-- the front of a request has no request at its own front
pub none_in_partial : (stream : List ℕ) → IsPartial stream → NoneStands stream
none_in_partial stream part s rest stands =
    laws.none_in_front request_code stream part.request part.more s rest part.fits part.some part.goes_on
    stands.fits stands.whole

pub none_in_bad : (stream : List ℕ) → IsBad stream → NoneStands stream
none_in_bad stream never r rest stands =
    never [] r rest (record { fits = stands.fits; whole = append-nil stream ∙ stands.whole })

pub bad_not_partial : (stream : List ℕ) → IsBad stream → IsPartial stream → ⊥
bad_not_partial stream never part =
    never part.more part.request []
    (record { fits = part.fits; whole = part.goes_on ∙ sym (append-nil (request_text part.request)) })

-- a stream of bytes is one of the three
pub one_of_three : (stream : List ℕ) → AreBytes stream → IsPartial stream
    ⊎ (((request : Request) × (rest : List ℕ) × StandsIn stream request rest) ⊎ IsBad stream)
one_of_three stream all = go (request_at stream) refl
  where
    go : (read : Result (Request × List ℕ) Stop) → request_at stream ≡ read → IsPartial stream
        ⊎ (((request : Request) × (rest : List ℕ) × StandsIn stream request rest) ⊎ IsBad stream)
    go (Ok x) e =
        let (fits, whole) = request_code.whole stream x.0 x.1 all e in
        inr (inl (x.0, x.1, record { fits = fits; whole = whole }))
    go (Err Short) e = inl (partial stream all e)
    go (Err Bad) e = inr (inr (bad stream all e))

-- what was found, by the number of its bytes
pub rest_fits : (stream : List ℕ) (r : Request) (rest : List ℕ) → AreBytes stream
    → request_at stream ≡ Ok (r, rest) → length stream ≡ length (request_text r) + length rest
rest_fits = laws.rest_length request_code

pub found_here : (stream : List ℕ) (r : Request) (rest : List ℕ) → AreBytes stream
    → request_at stream ≡ Ok (r, rest) → StandsIn stream r (drop (length stream - length rest) stream)
    × (length stream - length rest ≡ length (request_text r))
found_here stream r rest all e =
    let (fits, whole, size) = laws.found_here request_code stream r rest all e in
    (record { fits = fits; whole = whole }, size)

pub stopped : (stream : List ℕ) (stop : Stop) → AreBytes stream → request_at stream ≡ Err stop → Finds (Err stop) stream
stopped stream Short all e = partial stream all e
stopped stream Bad all e = bad stream all e
