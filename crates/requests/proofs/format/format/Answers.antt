use mathlib.Core.Path.{refl}
use Rattle.requests.proofs.FormatRequestLaws.{format_asks}
use Rattle.requests.proofs.format.format.Goals as goal

pub write_format-requires : goal.write_format-requires
write_format-requires c = let a = c.args in
    let asks = format_asks a.b.now a.zones a.indexes _ 0 _ _ c.in_ok-check_format.ensures refl c.unwrap_or.ensures c.unwrap_or-2.ensures in record { formattable = asks.0; in_bounds = asks.1.0; writable = asks.1.1 }
