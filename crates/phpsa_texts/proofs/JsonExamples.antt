-- The texts of small answers, byte for byte.
use Rattle.std.proofs.Common.{◌≡◌, [], refl, codes}
use Rattle.std.specs.Fmt.{digits}
use Rattle.hex.specs.Hex.{encode_with}
use Rattle.json.specs.Print.{escape_byte}
use Rattle.phpsa_texts.specs.JsonAnswers.{yes_json, no_json, sums_json, short_sums_json, items_json}

valid : yes_json ≡ codes "{\"answer\":\"yes\"}\n"
valid = refl

empty_page : no_json 0 [] ≡ codes "{\"answer\":\"no\",\"length\":0,\"page\":\"\"}\n"
unfolding digits encode_with escape_byte
empty_page = refl

short_page : no_json 12 (codes "<p>") ≡ codes "{\"answer\":\"no\",\"length\":12,\"page\":\"3c703e\"}\n"
unfolding digits encode_with escape_byte
short_page = refl

many_pairs : sums_json (codes "pairs") 2 7 ≡ codes "{\"answer\":\"undecided\",\"count\":2,\"height\":7,\"kind\":\"pairs\"}\n"
unfolding digits escape_byte
many_pairs = refl

many_short_tags : short_sums_json (codes "tags") 4097 21 ≡ codes "{\"answer\":\"undecided\",\"count\":4097,\"kind\":\"tags\",\"length\":21}\n"
unfolding digits escape_byte
many_short_tags = refl

many_items : items_json 8000001 ≡ codes "{\"answer\":\"undecided\",\"count\":8000001,\"kind\":\"items\"}\n"
unfolding digits escape_byte
many_items = refl
