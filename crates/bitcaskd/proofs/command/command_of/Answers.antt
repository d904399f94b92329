use Rattle.std.proofs.Common.{◌≡◌, ◌∙◌, ◌<◌, ◌∷◌, [], List, ℕ, ap, arith, codes, length, map, string_bytes, sym}
use Rattle.std.proofs.lemmas.Grind.{common_steps}
use Rattle.std.proofs.lemmas.Slice.Eq.{bytes_eq-Decides}
use Rattle.bitcaskd.proofs.WordLaws.{fill_found, fill_only, named_only, one_item, three_words, two_items}
use Rattle.bitcaskd.proofs.command.command_of.Goals as goal

pub returns-in-len1-clause-found : goal.returns-in-len1-clause-found
returns-in-len1-clause-found c =
    let words = one_item c.args.words.now c.verb-item.result c.in-len1.len_at_least c.in-len1.len_below c.verb-item.is in
    let verb : string_bytes c.verb-item.result ≡ codes "drill" = sym c.as_str.ensures.value
    ∙ (bytes_eq-Decides _ _).0 (sym c.if-eq.ensures) in
    ap (λ ws. map string_bytes ws) words ∙ ap (λ (w : List ℕ). w ∷ []) verb

pub returns-in-len2-clause-only : goal.returns-in-len2-clause-only
returns-in-len2-clause-only c =
    let words =
    two_items c.args.words.now c.verb-item-then-words-lt3.result c.dir-item.result c.in-len2.len_at_least c.in-len2.len_below
    c.verb-item-then-words-lt3.is c.dir-item.is in
    let dir = string_bytes c.dir-item.result in
    let two : map string_bytes c.args.words.now ≡ c.as_str-in-len2.result.now ∷ dir ∷ [] =
    ap (λ ws. map string_bytes ws) words ∙ ap (λ (w : List ℕ). w ∷ dir ∷ []) (sym c.as_str-in-len2.ensures.value) in
    named_only c.command_named.result c.as_str-in-len2.result.now dir (map string_bytes c.args.words.now) two
    c.command_named.ensures.only

pub returns-in-len3-clause-found : goal.returns-in-len3-clause-found
returns-in-len3-clause-found c =
    let words =
    three_words c.args.words.now c.verb-item-then-words-lt4.result c.dir-item-then-words-lt4.result c.count-item.result
    c.in-len3.len_at_least c.in-len3.len_below c.verb-item-then-words-lt4.is c.dir-item-then-words-lt4.is c.count-item.is in
    let verb : string_bytes c.verb-item-then-words-lt4.result ≡ codes "fill" = sym c.as_str-then-words-lt4.ensures.value
    ∙ (bytes_eq-Decides _ _).0 (sym c.if-eq-2.ensures) in
    let dir = string_bytes c.dir-item-then-words-lt4.result in
    let text = c.as_str-in-len3.result.now in
    let three : map string_bytes c.args.words.now ≡ codes "fill" ∷ dir ∷ text ∷ [] =
    ap (λ ws. map string_bytes ws) words ∙ ap (λ (w : List ℕ). w ∷ dir ∷ string_bytes c.count-item.result ∷ []) verb
    ∙ ap (λ (w : List ℕ). codes "fill" ∷ dir ∷ w ∷ []) (sym c.as_str-in-len3.ensures.value) in
    let some : 0 < length dir = grind (arith, common_steps, c.if-not-is_empty-2.ensures) in
    fill_found c.fill_of.result dir text (map string_bytes c.args.words.now) three some c.fill_of.ensures.found

pub returns-in-len3-clause-only : goal.returns-in-len3-clause-only
returns-in-len3-clause-only c =
    let words =
    three_words c.args.words.now c.verb-item-then-words-lt4.result c.dir-item-then-words-lt4.result c.count-item.result
    c.in-len3.len_at_least c.in-len3.len_below c.verb-item-then-words-lt4.is c.dir-item-then-words-lt4.is c.count-item.is in
    let verb : string_bytes c.verb-item-then-words-lt4.result ≡ codes "fill" = sym c.as_str-then-words-lt4.ensures.value
    ∙ (bytes_eq-Decides _ _).0 (sym c.if-eq-2.ensures) in
    let dir = string_bytes c.dir-item-then-words-lt4.result in
    let text = c.as_str-in-len3.result.now in
    let three : map string_bytes c.args.words.now ≡ codes "fill" ∷ dir ∷ text ∷ [] =
    ap (λ ws. map string_bytes ws) words ∙ ap (λ (w : List ℕ). w ∷ dir ∷ string_bytes c.count-item.result ∷ []) verb
    ∙ ap (λ (w : List ℕ). codes "fill" ∷ dir ∷ w ∷ []) (sym c.as_str-in-len3.ensures.value) in
    fill_only c.fill_of.result dir text (map string_bytes c.args.words.now) three c.fill_of.ensures.only
