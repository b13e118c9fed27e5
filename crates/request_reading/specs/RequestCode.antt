-- A request as the tuple of its arrays: by it a proof tells two requests apart.
use Rattle.std.specs.Prelude.{refl}
use Rattle.std.specs.Coded.{Coded, code_by, coded×}
use Rattle.plain_values.specs.Plain.{Pairs}
use Rattle.php_values.specs.PlainCode.{pairs_code}
use Rattle.script_meaning.specs.Requests.{PlainRequest}

-- the code of requests
abbrev pub request_code : Coded PlainRequest
request_code =
    code_by (Pairs × (Pairs × (Pairs × (Pairs × Pairs))))
    (coded× pairs_code (coded× pairs_code (coded× pairs_code (coded× pairs_code pairs_code))))
    (λ r. (r.get_of, (r.post_of, (r.cookie_of, (r.request_of, r.server_of)))))
    (λ p. record { get_of = p.0; post_of = p.1.0; cookie_of = p.1.1.0; request_of = p.1.1.1.0; server_of = p.1.1.1.1 }) (λ _. refl)
