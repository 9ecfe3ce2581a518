-- Each fault's number, layer, node and place.
use Rattle.std.specs.Prelude.{ℕ}
use Rattle.reader.specs.declared.faults.Layer.{Layer}
use Rattle.reader.specs.declared.faults.Layer.TheVariants.{Rules as In-rules, Order as In-order, Size as In-size}
use Rattle.reader.specs.declared.faults.Report.{Report}
use Rattle.reader.specs.declared.faults.Site.{Site}
use Rattle.reader.specs.Faults.{report_of}
use Rattle.admission.specs.declared.faults.RuleFault.{RuleFault}
use Rattle.admission.specs.declared.faults.RuleFault.TheVariants.{Types, Clocks, Definitions}
use Rattle.admission.specs.declared.faults.OrderFault.TheVariants.{NoOrder}
use Rattle.admission.specs.declared.faults.SizeFault.TheVariants.{Need}
use Rattle.admission.specs.declared.faults.Fault.{Fault}
use Rattle.admission.specs.declared.faults.Fault.TheVariants.{Reading, Rules, Order, Size}

abbrev pub layered : ℕ → Layer → Site → Report
layered number layer site = record { number = number; layer = layer; node = site.node; place = site.place }

abbrev pub rule_report : RuleFault → Report
rule_report (Types site) = layered 7 In-rules site
rule_report (Clocks site) = layered 8 In-rules site
rule_report (Definitions site) = layered 9 In-rules site

abbrev pub admission_report : Fault → Report
admission_report (Reading f) = report_of f
admission_report (Rules f) = rule_report f
admission_report (Order (NoOrder site)) = layered 10 In-order site
admission_report (Size (Need site)) = layered 11 In-size site
