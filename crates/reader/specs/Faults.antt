-- Each fault's number, layer, node and place.
use Rattle.std.specs.Prelude.{ℕ}
use Rattle.reader.specs.declared.faults.Layer.TheVariants.{Reading}
use Rattle.reader.specs.declared.faults.ReadFault.{ReadFault}
use Rattle.reader.specs.declared.faults.ReadFault.TheVariants.{Length, Kind, Spare, Set, Count, Number}
use Rattle.reader.specs.declared.faults.Report.{Report}
use Rattle.reader.specs.declared.faults.Site.{Site}

abbrev pub at_site : ℕ → Site → Report
at_site number site = record { number = number; layer = Reading; node = site.node; place = site.place }

abbrev pub report_of : ReadFault → Report
report_of Length = at_site 1 (record { node = 0; place = 0 })
report_of (Kind site) = at_site 2 site
report_of (Spare site) = at_site 3 site
report_of (Set site) = at_site 4 site
report_of (Count site) = at_site 5 site
report_of (Number site) = at_site 6 site
