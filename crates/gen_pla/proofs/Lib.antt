mod Progression
