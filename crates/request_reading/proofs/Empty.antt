-- The request of five empty arrays is admitted.
use Rattle.std.proofs.Common.{◌≡◌, refl, sym, subst, lit≤}
use Rattle.plain_values.specs.Plain.{Pairs, empty}
use Rattle.script_meaning.specs.Requests.{AreMembers, IsAdmitted, Admitted}

none : IsAdmitted empty
unfolding AreMembers
none = record { value = record { parts = (refl, tt); shallow = lit≤ tt }; members_are = tt }

same : (ps : Pairs) → ps ≡ empty → IsAdmitted ps
same ps e = subst IsAdmitted (sym e) none

pub empties : (a b c d e : Pairs) → a ≡ empty → b ≡ empty → c ≡ empty → d ≡ empty → e ≡ empty → Admitted (record { get_of = a; post_of = b; cookie_of = c; request_of = d; server_of = e })
empties a b c d e p q r s t = record { get = same a p; post = same b q; cookie = same c r; request = same d s; server = same e t }
