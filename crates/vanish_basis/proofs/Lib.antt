mod LeadElements
