use Rattle.std.proofs.Common.{◌≡◌, ℕ, ◌+◌, ◌≤◌, List, length, drop, refl, sym, ap, subst, arith}
use Rattle.std.proofs.lemmas.List.{take_rest}
use Rattle.bk_base.specs.declared.limits.TheConstants.{LONGEST_KEY, LONGEST_VALUE, RECORD_HEADER}
use Rattle.bk_laws.specs.Hint.{RowsLeft}
use Rattle.bk_laws.specs.Record.{value_length}
use Rattle.bk_hint.specs.Headers.{IsFirstRow, NoRow, row_in}
use Rattle.bk_hint.specs.Passing.{Reading}
use Rattle.bk_hint.proofs.RowsLeftBehind.{next_is, rows_none}
use Rattle.bk_hint.proofs.reading.HintIn.next_borrowed.Goals as goal

pub returns-in_err-header : goal.returns-in_err-header
returns-in_err-header c = λ covered rows left.
    let bytes = c.args.bytes.now in
    let at : c.self.inside.at ≡ c.args.self.now.at = ap (λ (r : Reading). r.at) c.self.view_is in
    let here : RowsLeft bytes c.self.inside.at covered rows =
    subst (λ (n : ℕ). RowsLeft bytes n covered rows) (sym at) left in
    let none : NoRow (drop c.self.inside.at bytes) =
    subst NoRow (take_rest bytes c.self.inside.at) c.in_err-header.ensures in
    rw c.from_residual.ensures (rows_none bytes c.self.inside.at covered rows here none, refl)

pub overflow_cast-version : goal.overflow_cast-version
overflow_cast-version c =
    let bytes = c.args.bytes.now in
    let h = c.in_ok-header.header in
    let key = c.in_ok-header.key.now in
    let rest = c.in_ok-header._rest.now in
    let at : c.self.inside.at ≡ c.args.self.now.at = ap (λ (r : Reading). r.at) c.self.view_is in
    let here : RowsLeft bytes c.self.inside.at c.requires.0 c.requires.1 =
    subst (λ (n : ℕ). RowsLeft bytes n c.requires.0 c.requires.1) (sym at) c.requires.2 in
    let first : IsFirstRow (drop c.self.inside.at bytes) h key rest =
    subst (λ (x : List ℕ). IsFirstRow x h key rest) (take_rest bytes c.self.inside.at) c.in_ok-header.ensures in
    let next = next_is bytes c.self.inside.at c.requires.0 c.requires.1 h key rest here first in
    let value : value_length h.vsz ≤ LONGEST_VALUE = next.sound.value in
    let short : length key ≤ LONGEST_KEY = next.fits.key.bounds.short in
    omega (arith, c.record_size.ensures, first.key_length, value, short)

pub returns : goal.returns
returns c = λ covered rows left.
    let bytes = c.args.bytes.now in
    let h = c.in_ok-header.header in
    let key = c.in_ok-header.key.now in
    let rest = c.in_ok-header._rest.now in
    let at : c.self.inside.at ≡ c.args.self.now.at = ap (λ (r : Reading). r.at) c.self.view_is in
    let file : c.self.inside.file ≡ c.args.self.now.file = ap (λ (r : Reading). r.file) c.self.view_is in
    let here : RowsLeft bytes c.self.inside.at covered rows =
    subst (λ (n : ℕ). RowsLeft bytes n covered rows) (sym at) left in
    let first : IsFirstRow (drop c.self.inside.at bytes) h key rest =
    subst (λ (x : List ℕ). IsFirstRow x h key rest) (take_rest bytes c.self.inside.at) c.in_ok-header.ensures in
    let next = next_is bytes c.self.inside.at covered rows h key rest here first in
    let size : c.record_size.result ≡ RECORD_HEADER + length key + value_length h.vsz =
    omega (arith, c.record_size.ensures, first.key_length) in
    let gone = c.is_tombstone.ensures in (
      row_in h key,
      next.later,
      next.rows_are,
      (λ i. record {
        seq = record { 0 = h.seq };
        at = h.at;
        moment = h.moment;
        file = file i;
        size = size i;
        crc = h.crc;
        gone = gone i;
      }),
      refl,
      (λ i. record { file = file i; at = at i + (30 + length key) }),
      next.left,
    )
