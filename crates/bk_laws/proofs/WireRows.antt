-- The texts of the wire grammar, tried on examples.
use Rattle.std.proofs.Common.{◌≡◌, [], ◌∷◌, refl, codes}
use Rattle.std.specs.Fmt.{digits}
use Rattle.bk_base.specs.declared.requests.Request.TheVariants.{Get, Put, Delete, Quit}
use Rattle.bk_base.specs.declared.requests.Reply.TheVariants.{Value, Absent, Numbered, Pair, Stat, Damaged, Full as full_reply}
use Rattle.bk_base.specs.declared.requests.Full.TheVariants.{Seq}
use Rattle.bk_laws.specs.Wire.{request_text, reply_text, hex_of}

get_a : request_text (Get (97 ∷ [])) ≡ codes "GET 1\na\n"
unfolding request_text digits
get_a = refl

put_a : request_text (Put (97 ∷ []) (49 ∷ [])) ≡ codes "PUT 1 1\na1\n"
unfolding request_text digits
put_a = refl

put_empty : request_text (Put (97 ∷ []) []) ≡ codes "PUT 1 0\na\n"
unfolding request_text digits
put_empty = refl

ok_one : reply_text (Numbered (record { 0 = 1 })) ≡ codes "OK 1\n"
unfolding reply_text digits
ok_one = refl

value_one : reply_text (Value (49 ∷ [])) ≡ codes "VALUE 1\n1\n"
unfolding reply_text digits
value_one = refl

value_empty : reply_text (Value []) ≡ codes "VALUE 0\n\n"
unfolding reply_text digits
value_empty = refl

none : reply_text Absent ≡ codes "NONE\n"
unfolding reply_text digits
none = refl

del_a : request_text (Delete (97 ∷ [])) ≡ codes "DEL 1\na\n"
unfolding request_text digits
del_a = refl

quit : request_text Quit ≡ codes "QUIT\n"
unfolding request_text
quit = refl

pair_a : reply_text (Pair (97 ∷ []) (49 ∷ [])) ≡ codes "PAIR 1 1\na1\n"
unfolding reply_text digits
pair_a = refl

stat_one : reply_text (Stat 1 1 24 24) ≡ codes "STAT 1 1 24 24\n"
unfolding reply_text digits
stat_one = refl

damaged : reply_text (Damaged (record { at = 24; file = record { 0 = 3 }; kept = 2952020930; found = 17 })) ≡ codes "DAMAGED 3 24 aff443c2 00000011\n"
unfolding reply_text hex_of digits
damaged = refl

full_seq : reply_text (full_reply Seq) ≡ codes "FULL seq\n"
unfolding reply_text
full_seq = refl
