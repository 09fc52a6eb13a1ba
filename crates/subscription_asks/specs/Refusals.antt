-- What of a request to subscribe is refused by its content (SOL 003 5.4.18, Subscriptions).
use Rattle.std.specs.Prelude.{Bool, Err, List, None, Ok, Option, Some, codes, false, if◌then◌else◌, ℕ, bytes_eq, ◌&&◌}
use Rattle.json_bodies.specs.declared.subscribing.SubscriptionBody.{SubscriptionBody}
use Rattle.subscription_asks.specs.declared.refusals.SubscriptionRefusal.{SubscriptionRefusal}
use Rattle.subscription_asks.specs.declared.refusals.SubscriptionRefusal.TheVariants.{NotHttpUri, ProductsNotServed}
use Rattle.url.specs.Parser.{Parsed, parse_url}
use Rattle.url.specs.Parts.{Parts, has_host}

-- what was read is a URL of the scheme http with a host
abbrev pub is_http : Parsed Parts → Bool
is_http (Ok url) = bytes_eq url.scheme (codes "http") && has_host url
is_http (Err why) = false

-- the text is a URI of the scheme http with a host (SOL 003 5.5.2.15, callbackUri; the URL Standard 4.4)
abbrev pub is_http_uri : List ℕ → Bool
is_http_uri text = is_http (parse_url None text)

-- what is wrong first with the content of a request to subscribe (own rules over SOL 003 5.4.18)
abbrev pub content_refusal : SubscriptionBody → Option SubscriptionRefusal
content_refusal body =
    if is_http_uri body.callback
    then (if body.asked.products then Some ProductsNotServed else None)
    else Some NotHttpUri
